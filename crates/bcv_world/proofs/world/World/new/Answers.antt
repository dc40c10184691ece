use Rattle.std.proofs.Common.{refl}
use Rattle.bcv_world.proofs.WorldBegins.{is_first}
use Rattle.bcv_world.proofs.world.World.new.Goals as goal

pub returns-clause-first : goal.returns-clause-first
returns-clause-first c = is_first _ c.first_places.new.names c.in_ok-places.ensures.first c.requires.clients refl c.new.ensures.log refl
