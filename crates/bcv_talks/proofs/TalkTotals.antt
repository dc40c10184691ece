-- What a whole talk leaves of its client, and the names that it draws.
use Rattle.std.proofs.Common.{◌≡◌, ◌∙◌, ◌⊎◌, ◌≤◌, inl, inr, ℕ, true, false, arith, List, [], ◌∷◌, ◌++◌, Option, Some, None, append-nil, append_assoc, refl, sym, ap, subst}
use Rattle.bcv_base.specs.declared.id.Id16.{Id16}
use Rattle.bcv_base.specs.Drawn.{AddsNames}
use Rattle.bcv_client.specs.Talk.{Exchange, Point, Talks}
use Rattle.bcv_disk.specs.DiskShown.{DiskShown, DiskTold}
use Rattle.bcv_store.specs.StoreShown.{StoreTold}
use Rattle.bcv_talks.specs.TalkTotals.{CountsDiskFaults, SameAfter, disk_faults, meets_disk_fault, taken_after, talk_names}
use Rattle.bcv_talks.specs.Runs.{is_disk_fault}
use Rattle.bcv_base.specs.Faults.{Rose}
use Rattle.bcv_dbmap.proofs.Bools.{or_cases}
use Rattle.bcv_model.specs.declared.reply.Reply.{Reply}
use Rattle.bcv_model.specs.declared.reply.Reply.TheVariants as reply

-- ---- names

adds_none : (names : Option (List Id16)) → AddsNames names names []
adds_none None = tt
adds_none (Some names) = sym (append-nil names)

adds_twice : (old mid new : Option (List Id16)) (ids more : List Id16) → AddsNames old mid ids → AddsNames mid new more → AddsNames old new (ids ++ more)
adds_twice None mid new ids more first next = tt
adds_twice (Some old) None new ids more first next = absurd first
adds_twice (Some old) (Some mid) None ids more first next = absurd next
adds_twice (Some old) (Some mid) (Some new) ids more first next = next ∙ ap (λ (l : List Id16). l ++ more) first ∙ append_assoc old ids more

-- ---- faults of the disk

is_fault : (r : Reply) → is_disk_fault r ≡ true → r ≡ reply.DiskFault
is_fault reply.DiskFault h = refl
is_fault r h = absurd cc

rose_then : (a b c : ℕ) → Rose a b → b ≤ c → Rose a c
rose_then a b c rose later = omega (arith, rose, later)

rose_since : (a b c : ℕ) → a ≤ b → Rose b c → Rose a c
rose_since a b c later rose = omega (arith, later, rose)

counts_none : (n : ℕ) → CountsDiskFaults [] n n
counts_none n = record { later = omega arith; rose = λ h. absurd (let no_one : false ≡ true = h in cc) }

counts_more : (e : Exchange) (es : List Exchange) (a b c : ℕ) → a ≤ b → (e.reply ≡ reply.DiskFault → Rose a b) → CountsDiskFaults es b c
    → CountsDiskFaults (e ∷ es) a c
counts_more e es a b c later rose rest =
    record { later = omega (arith, later, rest.later); rose = λ h. by (or_cases (is_disk_fault e.reply) (meets_disk_fault es) h) }
  where
    by : (is_disk_fault e.reply ≡ true) ⊎ (meets_disk_fault es ≡ true) → Rose a c
    by (inl now) = rose_then a b c (rose (is_fault e.reply now)) rest.later
    by (inr after) = rose_since a b c later (rest.rose after)

module _ {D : Type 0} {g : _} (told : DiskTold) (shown : D → DiskShown) (store : StoreTold) where
  pub talk_draws : (a b : Point D g) (es : List Exchange) (talk : Talks told shown store a es b)
      → AddsNames a.names.drawn b.names.drawn (talk_names told shown store a es b talk)
  talk_draws a b [] talk = subst (λ (x : Point D g). AddsNames a.names.drawn x.names.drawn []) (sym talk) (adds_none a.names.drawn)
  talk_draws a b (e ∷ es) talk =
      adds_twice a.names.drawn talk.0.names.drawn b.names.drawn talk.1.asks.calls.ids (talk_names told shown store talk.0 es b talk.2)
      talk.1.asks.calls.drawn (talk_draws talk.0 b es talk.2)

  pub talk_counts_faults : (a b : Point D g) (es : List Exchange) → Talks told shown store a es b
      → CountsDiskFaults es (disk_faults shown a.client) (disk_faults shown b.client)
  talk_counts_faults a b [] talk =
      subst (λ (x : Point D g). CountsDiskFaults [] (disk_faults shown a.client) (disk_faults shown x.client)) (sym talk)
      (counts_none (disk_faults shown a.client))
  talk_counts_faults a b (e ∷ es) talk =
      counts_more e es (disk_faults shown a.client) (disk_faults shown talk.0.client) (disk_faults shown b.client) talk.1.disk.later talk.1.disk.rose
      (talk_counts_faults talk.0 b es talk.2)

  -- ---- the client

  pub talk_keeps_client : (a b : Point D g) (es : List Exchange) → Talks told shown store a es b → SameAfter es a.client b.client
  talk_keeps_client a b [] talk =
      subst (λ (x : Point D g). SameAfter [] a.client x.client) (sym talk) (record { id = refl; taken = refl; slots = refl })
  talk_keeps_client a b (e ∷ es) talk =
      let rest : SameAfter es talk.0.client b.client = talk_keeps_client talk.0 b es talk.2 in
      record {
        id = rest.id ∙ talk.1.same.id;
        taken = rest.taken ∙ ap (taken_after es) talk.1.same.taken;
        slots = rest.slots ∙ talk.1.same.slots;
      }
