use Rattle.bcv_snapshot.proofs.ImageLaws.{sizes_are_fixed, looks_at_fixed_image, places_in_fixed_image}
use Rattle.bcv_snapshot.proofs.SoundFetch.{versions_are_put}
use Rattle.bcv_snapshot.proofs.laws.image_is_fixed.Goals as goal

pub returns-clause-begins : goal.returns-clause-begins
returns-clause-begins c = versions_are_put

pub returns-clause-sizes : goal.returns-clause-sizes
returns-clause-sizes c = sizes_are_fixed

pub returns-clause-looks : goal.returns-clause-looks
returns-clause-looks c = looks_at_fixed_image

pub returns-clause-places : goal.returns-clause-places
returns-clause-places c = places_in_fixed_image
