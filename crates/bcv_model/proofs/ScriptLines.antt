-- Lines and what the grammar makes of them, computed.
use Rattle.std.specs.Prelude.{◌≡◌, [], ◌∷◌, Ok, Err, codes, refl}
use Rattle.bcv_base.specs.declared.outcome.Outcome.TheVariants as outcome
use Rattle.bcv_model.specs.declared.ask.Ask.TheVariants as ask
use Rattle.bcv_model.specs.declared.event.Act.TheVariants as act
use Rattle.bcv_model.specs.declared.event.Event.TheVariants as event
use Rattle.bcv_model.specs.declared.spec.WorldSpec.{WorldSpec}
use Rattle.bcv_model.specs.Script.{world_of, world_at, event_of, event_at, act_at, asking, pair_line_of}

abbrev three_clients : WorldSpec
three_clients = record { clients = 3; block = 1024; page = 512; retention = 50; slots = 4 }

world_line : world_of (codes "world 3 1024 512 50 4") ≡ Ok three_clients
unfolding world_of world_at lib.Count.ones
world_line = refl

page_above_block : world_of (codes "world 3 1024 2048 50 4") ≡ Err 13
unfolding world_of world_at lib.Count.ones
page_above_block = refl

hold_line : event_of three_clients (codes "2 hold 64 1") ≡ Ok (event.Of 2 (asking (ask.Hold 64 1)))
unfolding event_of event_at act_at
hold_line = refl

page_zero : event_of three_clients (codes "1 commit a 1 0=aa") ≡ Err 13
unfolding event_of event_at act_at
page_zero = refl

pages_turned_round : event_of three_clients (codes "1 commit a 5 4=- 4=01") ≡ Err 17
unfolding event_of event_at act_at
pages_turned_round = refl

empty_line : event_of three_clients [] ≡ Err 0
unfolding event_of event_at act_at
empty_line = refl

too_early : event_of three_clients (codes "3 step") ≡ Err 6
unfolding event_of event_at act_at
too_early = refl

space_at_the_end : event_of three_clients (codes "3 poll ") ≡ Err 7
unfolding event_of event_at act_at
space_at_the_end = refl

two_spaces : event_of three_clients (codes "3  poll") ≡ Err 2
unfolding event_of event_at act_at
two_spaces = refl

pair_line : pair_line_of 6 (codes "7=0aff") ≡ Ok (7, 10 ∷ 255 ∷ [])
unfolding pair_line_of
pair_line = refl

pair_again : pair_line_of 7 (codes "7=0aff") ≡ Err 0
unfolding pair_line_of
pair_again = refl

fuse_line : event_of three_clients (codes "1 fuse 4294967295 4") ≡ Ok (event.Of 1 (act.Fuse 4294967295 4))
unfolding event_of event_at act_at
fuse_line = refl

lost_line : event_of three_clients (codes "3 step 16 lost") ≡ Ok (event.Of 3 (act.Ask (ask.Step 16) outcome.Lost))
unfolding event_of event_at act_at
lost_line = refl

commit_line : event_of (record three_clients { page = 2 }) (codes "1 commit a 0 1=aa 3=-")
    ≡ Ok (event.Of 1 (asking (ask.Commit (codes "a") (record { size = 0; pages = (1, 170 ∷ 0 ∷ []) ∷ (3, 0 ∷ 0 ∷ []) ∷ [] }))))
unfolding event_of event_at act_at
commit_line = refl

tick_line : event_of three_clients (codes "tick 18446744073709551615") ≡ Ok (event.Tick 18446744073709551615)
unfolding event_of event_at act_at
tick_line = refl

tick_above : event_of three_clients (codes "tick 18446744073709551616") ≡ Err 5
unfolding event_of event_at act_at
tick_above = refl
