pub mod FreeNumbers
pub mod PlacesFound
pub mod NumbersDiffer
