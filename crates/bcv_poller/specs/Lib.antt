pub mod ManifestPoll
