-- How often the disk, the store, the source of names and the clock of a client have failed, and which count a status says has risen.
use Rattle.std.proofs.Common.{◌≡◌, ◌≤◌, ℕ, List, MatchOption, refl, sym, ap, subst, arith, inl, inr}
use Rattle.bcv_base.specs.Drawn.{NamesShown}
use Rattle.bcv_base.specs.Faults.{Rose}
use Rattle.bcv_base.specs.Moments.{ClockShown}
use Rattle.bcv_base.specs.declared.id.Id16.{Id16}
use Rattle.bcv_client.specs.Talk.{Exchange, Exchanged, Point}
use Rattle.bcv_client.specs.CallFaults.{CallCauses}
use Rattle.bcv_client.specs.declared.client.Client.{Client}
use Rattle.bcv_client.specs.declared.rising.Up.TheVariants as up
use Rattle.bcv_clientlog.specs.LogParts.{log_disk}
use Rattle.bcv_commands.specs.declared.status.Status.{Status}
use Rattle.bcv_commands.specs.declared.status.Status.TheVariants as status
use Rattle.bcv_disk.specs.DiskShown.{DiskShown, DiskTold}
use Rattle.bcv_disk.specs.declared.disk.Disk.{Ghosts}
use Rattle.bcv_model.specs.declared.kept.Kept.{Kept}
use Rattle.bcv_model.specs.declared.reply.Reply.{Reply}
use Rattle.bcv_model.specs.declared.reply.Reply.TheVariants as reply
use Rattle.bcv_risen.specs.Rises.{IsNamed, MayDraw, RiseRefused}
use Rattle.bcv_risen.specs.declared.risen.RiseFault.{RiseFault}
use Rattle.bcv_risen.specs.declared.risen.RiseFault.TheVariants as fault
use Rattle.bcv_store.specs.StoreShown.{StoreShown, StoreTold}
use Rattle.bcv_runner.specs.CommandAsks.{Around}
use Rattle.bcv_runner.specs.CommandRuns.{ClientRises, StaysDown}
use Rattle.bcv_runner.specs.Endings.{status_of, stop_of, up_ending}
use Rattle.bcv_runner.specs.declared.ending.Ending.{Ending}

-- ---- counts

pub record FaultCounts : Type 0 where
  pub disk : ℕ
  pub store : ℕ
  pub names : ℕ
  pub clock : ℕ

abbrev pub faults_with : {D : Type 0} → (D → DiskShown) → D → Around → FaultCounts
faults_with shown d x = record { disk = (shown d).faults; store = x.store.faults; names = x.names.faults; clock = x.clock.faults }

abbrev pub faults_at : {D : Type 0} {g : _} → (D → DiskShown) → Point D g → FaultCounts
faults_at shown p = record {
  disk = (shown (log_disk p.client.ledger.log)).faults;
  store = p.store.faults;
  names = p.names.faults;
  clock = p.clock.faults;
}

-- no count has fallen
pub record NoFewer (f g : FaultCounts) : Type 0 where
  pub disk : f.disk ≤ g.disk
  pub store : f.store ≤ g.store
  pub names : f.names ≤ g.names
  pub clock : f.clock ≤ g.clock

-- the count of what a status says has failed has risen
abbrev pub RoseFor : FaultCounts → FaultCounts → Status → Type 0
RoseFor f g status.StoreFault = Rose f.store g.store
RoseFor f g (status.Unknown id) = Rose f.store g.store
RoseFor f g status.DiskFault = Rose f.disk g.disk
RoseFor f g status.NamesFault = Rose f.names g.names
RoseFor f g status.ClockFault = Rose f.clock g.clock
RoseFor f g s = Unit {0}

-- so it is for a reply that ends a command with a status
abbrev pub RoseBy : FaultCounts → FaultCounts → Reply → Type 0
RoseBy f g r = MatchOption (stop_of r) (Unit {0}) (RoseFor f g)

rose_later : (a b c : ℕ) → a ≤ b → Rose b c → Rose a c
rose_later a b c later rose = omega (arith, later, rose)

rose_before : (a b c : ℕ) → Rose a b → b ≤ c → Rose a c
rose_before a b c rose later = omega (arith, later, rose)

at_most : (a b : ℕ) → b ≡ a → a ≤ b
at_most a b is = omega (arith, is)

through : (a b c : ℕ) → a ≤ b → b ≤ c → a ≤ c
through a b c one two = omega (arith, one, two)

pub stay : (f : FaultCounts) → NoFewer f f
stay f = record { disk = at_most f.disk f.disk refl; store = at_most f.store f.store refl; names = at_most f.names f.names refl; clock = at_most f.clock f.clock refl }

pub later_still : (f g h : FaultCounts) → NoFewer f g → NoFewer g h → NoFewer f h
later_still f g h one two = record {
  disk = through f.disk g.disk h.disk one.disk two.disk;
  store = through f.store g.store h.store one.store two.store;
  names = through f.names g.names h.names one.names two.names;
  clock = through f.clock g.clock h.clock one.clock two.clock;
}

pub since : (f g h : FaultCounts) (s : Status) → NoFewer f g → RoseFor g h s → RoseFor f h s
since f g h status.StoreFault later rose = rose_later f.store g.store h.store later.store rose
since f g h (status.Unknown id) later rose = rose_later f.store g.store h.store later.store rose
since f g h status.DiskFault later rose = rose_later f.disk g.disk h.disk later.disk rose
since f g h status.NamesFault later rose = rose_later f.names g.names h.names later.names rose
since f g h status.ClockFault later rose = rose_later f.clock g.clock h.clock later.clock rose
since f g h _ later rose = tt

pub until : (f g h : FaultCounts) (s : Status) → RoseFor f g s → NoFewer g h → RoseFor f h s
until f g h status.StoreFault rose later = rose_before f.store g.store h.store rose later.store
until f g h (status.Unknown id) rose later = rose_before f.store g.store h.store rose later.store
until f g h status.DiskFault rose later = rose_before f.disk g.disk h.disk rose later.disk
until f g h status.NamesFault rose later = rose_before f.names g.names h.names rose later.names
until f g h status.ClockFault rose later = rose_before f.clock g.clock h.clock rose later.clock
until f g h _ rose later = tt

-- ---- a call

by_reply : (before after : StoreShown) (n m : NamesShown) (c d : ClockShown) (i j : ℕ) (r : Reply) → CallCauses before after n m c d r
    → (r ≡ reply.DiskFault → Rose i j)
    → RoseBy (record { disk = i; store = before.faults; names = n.faults; clock = c.faults }) (record { disk = j; store = after.faults; names = m.faults; clock = d.faults }) r
by_reply before after n m c d i j reply.StoreFault causes disk = causes
by_reply before after n m c d i j (reply.Unknown id) causes disk = causes
by_reply before after n m c d i j reply.NamesFault causes disk = causes
by_reply before after n m c d i j reply.ClockFault causes disk = causes
by_reply before after n m c d i j reply.DiskFault causes disk = disk refl
by_reply before after n m c d i j _ causes disk = tt

module _ {D : Type 0} {g : Ghosts D} (told : DiskTold) (shown : D → DiskShown) (store : StoreTold) where
  pub call_later : (a b : Point D g) (e : Exchange) → Exchanged told shown store a e b → NoFewer (faults_at shown a) (faults_at shown b)
  call_later a b e call = record { disk = call.disk.later; store = call.counted.store; names = call.counted.names; clock = call.counted.clock }

  pub call_rose : (a b : Point D g) (e : Exchange) → Exchanged told shown store a e b → RoseBy (faults_at shown a) (faults_at shown b) e.reply
  call_rose a b e call =
      by_reply a.store b.store a.names b.names a.clock b.clock (shown (log_disk a.client.ledger.log)).faults (shown (log_disk b.client.ledger.log)).faults e.reply
      call.causes call.disk.rose

-- ---- coming up

-- a client that is up has drawn a name at most, and no draw failed
named : (old new : NamesShown) (left kept : Kept) (id : Id16) → IsNamed old new left id kept → new.faults ≡ old.faults
named old new left kept id is = elim is [
  | inl had ↦ ap (λ (n : NamesShown). n.faults) had.2
  | inr drew ↦ drew.2.cause
]

may_draw : (told : DiskTold) (bytes : List ℕ) (old new : NamesShown) → MayDraw told bytes old new → new.faults ≡ old.faults
may_draw told bytes old new may = elim may [
  | inl none ↦ ap (λ (n : NamesShown). n.faults) none
  | inr drew ↦ drew.1.cause
]

pub up_later : {D : Type 0} (g : Ghosts D) (told : DiskTold) (shown : D → DiskShown) (disk : D) (x : Around) (names : NamesShown) (c : Client D g)
    → ClientRises told shown disk x.names names (up.Ready c) → NoFewer (faults_with shown disk x) (faults_with shown (log_disk c.ledger.log) (record x { names = names }))
up_later g told shown disk x names c rises =
    let ends = rises.rises.ends in
    record {
      disk = rises.rises.fails.later;
      store = at_most x.store.faults x.store.faults refl;
      names = at_most x.names.faults names.faults (named x.names names ends.left c.ledger.databases.kept c.id ends.named);
      clock = at_most x.clock.faults x.clock.faults refl;
    }

-- the names of a client that does not come up
names_later : {D : Type 0} (told : DiskTold) (shown : D → DiskShown) (bytes : List ℕ) (old new : NamesShown) (back : D) (why : RiseFault)
    → RiseRefused told shown bytes old new back why → old.faults ≤ new.faults
names_later told shown bytes old new back (fault.NotJournal at) refused = at_most old.faults new.faults (ap (λ (n : NamesShown). n.faults) refused.0)
names_later told shown bytes old new back fault.DiskFault refused = at_most old.faults new.faults (may_draw told bytes old new refused)
names_later told shown bytes old new back fault.NamesFault refused = refused.0.cause.0
names_later told shown bytes old new back fault.NoMemory refused = at_most old.faults new.faults (may_draw told bytes old new refused)

down_rose : {D : Type 0} (told : DiskTold) (shown : D → DiskShown) (bytes : List ℕ) (before after : Around) (disk back : D) (why : RiseFault)
    → RiseRefused told shown bytes before.names after.names back why → (why ≡ fault.DiskFault → Rose (shown disk).faults (shown back).faults)
    → RoseFor (faults_with shown disk before) (faults_with shown back after) (status_of (up_ending why))
down_rose told shown bytes before after disk back (fault.NotJournal at) refused rose = tt
down_rose told shown bytes before after disk back fault.DiskFault refused rose = rose refl
down_rose told shown bytes before after disk back fault.NamesFault refused rose = refused.0.cause.1
down_rose told shown bytes before after disk back fault.NoMemory refused rose = tt

module _ {D : Type 0} (g : Ghosts D) (told : DiskTold) (shown : D → DiskShown) where
  pub down_later : (disk back : D) (before after : Around) (e : Ending) → StaysDown g told shown disk before after e back
      → NoFewer (faults_with shown disk before) (faults_with shown back after)
  down_later disk back before after e x = record {
    disk = x.up.rises.fails.later;
    store = at_most before.store.faults after.store.faults (ap (λ (s : StoreShown). s.faults) x.store);
    names = names_later told shown (shown disk).seen before.names after.names back x.why x.up.rises.ends;
    clock = at_most before.clock.faults after.clock.faults (ap (λ (c : ClockShown). c.faults) x.clock);
  }

  pub stays_down : (disk back : D) (before after : Around) (e : Ending) → StaysDown g told shown disk before after e back
      → RoseFor (faults_with shown disk before) (faults_with shown back after) (status_of e)
  stays_down disk back before after e x =
      subst (λ (y : Ending). RoseFor (faults_with shown disk before) (faults_with shown back after) (status_of y)) (sym x.ends)
      (down_rose told shown (shown disk).seen before after disk back x.why x.up.rises.ends x.up.rises.fails.rose)
