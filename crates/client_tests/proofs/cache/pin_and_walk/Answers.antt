use Rattle.client_tests.proofs.PinLaws.{held_kept}
use Rattle.client_tests.proofs.cache.pin_and_walk.Goals as goal

pub bytes-requires : goal.bytes-requires
bytes-requires g c = held_kept c.pin-pin.result c.pin-pin.new.self.entries c.walk-walked.new.cache.entries c.walk-walked.ensures.pinned_stay c.pin-pin.ensures.held

pub unpin-requires : goal.unpin-requires
unpin-requires g c = held_kept c.pin-pin.result c.pin-pin.new.self.entries c.walk-walked.new.cache.entries c.walk-walked.ensures.pinned_stay c.pin-pin.ensures.held
