-- A transaction's image never changes after its begin.
use Rattle.std.proofs.Common.{◌≡◌, ◌∙◌, ℕ, ◌==◌, Bool, true, false, not, List, [], ◌∷◌, ◌++◌, map, Option, Some, None, if◌then◌else◌, refl, sym, ap, subst, inl, inr}
use Rattle.std.proofs.lemmas.Bool.{false≢true, eqb-true}
use Rattle.std.specs.Prelude.{find, filter}
use Rattle.std.specs.Option.{option_map}
use Rattle.bcv_model.specs.declared.ask.Ask.{Ask}
use Rattle.bcv_model.specs.declared.event.Act.{Act}
use Rattle.bcv_model.specs.declared.event.Event.{Event}
use Rattle.bcv_model.specs.declared.reply.Reply.{Reply}
use Rattle.bcv_model.specs.declared.reply.Reply.TheVariants as reply
use Rattle.bcv_model.specs.declared.reply.Said.{Said}
use Rattle.bcv_machine.specs.ManifestPut.{intent_of, with_intent}
use Rattle.bcv_machine.specs.Noting.{Notes}
use Rattle.bcv_machine.specs.Reading.{with_txn}
use Rattle.bcv_machine.specs.Refusals.{ends_pending}
use Rattle.bcv_machine.specs.State.{State, Side, Client, Up, Txn, Note, Finishing, Voiding, Publication, Publishing, with_task, new_up, client_at}
use Rattle.bcv_machine.specs.Step.{Choice, Next, give_back}
use Rattle.bcv_machine.specs.TxnLaw.{IsSameTxn, TxnsStay}
use Rattle.bcv_machine.proofs.Moves as m
use Rattle.bcv_machine.proofs.Moves.{Move}
use Rattle.bcv_machine.proofs.Publishing as p
use Rattle.bcv_machine.proofs.Publishing.{PublicationMove, Voids, intended_side, appended_side}
use Rattle.bcv_machine.proofs.ActMoves as w
use Rattle.bcv_machine.proofs.ActMoves.{ActMove}
use Rattle.bcv_machine.proofs.Clients.{by_test, Became, Unmoved, Moved, became}

-- ---- one transaction

same : (x : Txn) → IsSameTxn x x
same x = record { fixed = refl; image = refl }

some_same : (x y : Txn) → Some x ≡ Some y → x ≡ y
some_same x y h = cc

equal : (x y : Txn) → x ≡ y → IsSameTxn x y
equal x y h = subst (λ (z : Txn). IsSameTxn x z) h (same x)

-- ---- the transactions of a number

-- the first of a number in a list
abbrev numbered : ℕ → List Txn → Option Txn
numbered n ts = find (λ (t : Txn). t.number == n) ts

-- two lists: what both have of a number is the same transaction
abbrev Stay : List Txn → List Txn → Type 0
Stay ts us = (n : ℕ) (x y : Txn) → numbered n ts ≡ Some x → numbered n us ≡ Some y → IsSameTxn x y

stay_equal : (ts us : List Txn) → us ≡ ts → Stay ts us
stay_equal ts us h n x y was is = equal x y (some_same x y (sym was ∙ ap (λ (l : List Txn). numbered n l) (sym h) ∙ is))

-- one more at the end hides none
more_found : (n : ℕ) (ts : List Txn) (x z : Txn) → numbered n ts ≡ Some x → numbered n (ts ++ z ∷ []) ≡ Some x
more_found n [] x z h = absurd (cc)
more_found n (t ∷ ts) x z h =
    by_test {G = numbered n (t ∷ (ts ++ z ∷ [])) ≡ Some x} (t.number == n)
    (λ e. ap (λ (b : Bool). if b then Some t else numbered n (ts ++ z ∷ [])) e ∙ sym (ap (λ (b : Bool). if b then Some t else numbered n ts) e) ∙ h)
    (λ e. ap (λ (b : Bool). if b then Some t else numbered n (ts ++ z ∷ [])) e ∙ more_found n ts x z (sym (ap (λ (b : Bool). if b then Some t else numbered n ts) e) ∙ h))

stay_more : (ts : List Txn) (z : Txn) → Stay ts (ts ++ z ∷ [])
stay_more ts z n x y was is = equal x y (some_same x y (sym (more_found n ts x z was) ∙ is))

-- what is found has the number
found_number : (n : ℕ) (ts : List Txn) (x : Txn) → numbered n ts ≡ Some x → x.number ≡ n
found_number n [] x h = absurd (cc)
found_number n (t ∷ ts) x h =
    by_test {G = x.number ≡ n} (t.number == n)
    (λ e. ap (λ (z : Txn). z.number) (sym (some_same t x (sym (ap (λ (b : Bool). if b then Some t else numbered n ts) e) ∙ h))) ∙ eqb-true t.number n e)
    (λ e. found_number n ts x (sym (ap (λ (b : Bool). if b then Some t else numbered n ts) e) ∙ h))

-- another one in the place of one of its number
abbrev replaced : Txn → Txn → Txn
replaced z t = if t.number == z.number then z else t

replaced_number : (z t : Txn) → (replaced z t).number ≡ t.number
replaced_number z t =
    by_test {G = (replaced z t).number ≡ t.number} (t.number == z.number)
    (λ e. ap (λ (b : Bool). let x : Txn = if b then z else t in x.number) e ∙ sym (eqb-true t.number z.number e))
    (λ e. ap (λ (b : Bool). let x : Txn = if b then z else t in x.number) e)

map_found : (n : ℕ) (z : Txn) (ts : List Txn) → numbered n (map (replaced z) ts) ≡ option_map (replaced z) (numbered n ts)
map_found n z [] = refl
map_found n z (t ∷ ts) =
    ap (λ (k : ℕ). if k == n then Some (replaced z t) else numbered n (map (replaced z) ts)) (replaced_number z t)
    ∙ by_test {G = (if t.number == n then Some (replaced z t) else numbered n (map (replaced z) ts)) ≡ option_map (replaced z) (if t.number == n then Some t else numbered n ts)} (t.number == n)
    (λ e. ap (λ (b : Bool). if b then Some (replaced z t) else numbered n (map (replaced z) ts)) e ∙ sym (ap (λ (b : Bool). option_map (replaced z) (if b then Some t else numbered n ts)) e))
    (λ e. ap (λ (b : Bool). if b then Some (replaced z t) else numbered n (map (replaced z) ts)) e ∙ map_found n z ts ∙ sym (ap (λ (b : Bool). option_map (replaced z) (if b then Some t else numbered n ts)) e))

-- a transaction that holds other blocks, in its place
stay_held : (ts : List Txn) (k : ℕ) (z : Txn) (held : List ℕ) → numbered k ts ≡ Some z → Stay ts (map (replaced (record z { held = held })) ts)
stay_held ts k z held there n x y was is =
    let h : Txn = record z { held = held } in
    let y_is : replaced h x ≡ y = some_same (replaced h x) y (sym (map_found n h ts ∙ ap (option_map (replaced h)) was) ∙ is) in
    subst (λ (q : Txn). IsSameTxn x q) y_is
    (by_test {G = IsSameTxn x (replaced h x)} (x.number == h.number)
    (λ e. let number : n ≡ k = sym (found_number n ts x was) ∙ eqb-true x.number h.number e ∙ found_number k ts z there in
    let one : x ≡ z = some_same x z (sym was ∙ ap (λ (i : ℕ). numbered i ts) number ∙ there) in
    subst (λ (q : Txn). IsSameTxn x q) (sym (ap (λ (b : Bool). if b then h else x) e)) (subst (λ (q : Txn). IsSameTxn q h) (sym one) (record { fixed = refl; image = refl })))
    (λ e. equal x (replaced h x) (sym (ap (λ (b : Bool). if b then h else x) e))))

-- without those of a number
abbrev without : ℕ → List Txn → List Txn
without k ts = filter (λ (t : Txn). not (t.number == k)) ts

kept_number : (n k : ℕ) (ts : List Txn) (y : Txn) → numbered n (without k ts) ≡ Some y → (y.number == k) ≡ false
kept_number n k [] y h = absurd (cc)
kept_number n k (t ∷ ts) y h =
    by_test {G = (y.number == k) ≡ false} (t.number == k)
    (λ e. kept_number n k ts y (sym (ap (λ (b : Bool). numbered n (if not b then t ∷ without k ts else without k ts)) e) ∙ h))
    (λ e. let g : (if t.number == n then Some t else numbered n (without k ts)) ≡ Some y = sym (ap (λ (b : Bool). numbered n (if not b then t ∷ without k ts else without k ts)) e) ∙ h in
    by_test {G = (y.number == k) ≡ false} (t.number == n)
    (λ f. ap (λ (z : Txn). z.number == k) (sym (some_same t y (sym (ap (λ (b : Bool). if b then Some t else numbered n (without k ts)) f) ∙ g))) ∙ e)
    (λ f. kept_number n k ts y (sym (ap (λ (b : Bool). if b then Some t else numbered n (without k ts)) f) ∙ g)))

without_found : (n k : ℕ) (ts : List Txn) (x y : Txn) → numbered n ts ≡ Some x → numbered n (without k ts) ≡ Some y → x ≡ y
without_found n k [] x y was is = absurd (cc)
without_found n k (t ∷ ts) x y was is =
    by_test {G = x ≡ y} (t.number == n)
    (λ e. let one : t ≡ x = some_same t x (sym (ap (λ (b : Bool). if b then Some t else numbered n ts) e) ∙ was) in
    by_test {G = x ≡ y} (t.number == k)
    (λ f. let number : y.number ≡ t.number = found_number n (without k (t ∷ ts)) y is ∙ sym (eqb-true t.number n e) in
    absurd (false≢true (sym (kept_number n k (t ∷ ts) y is) ∙ ap (λ (i : ℕ). i == k) number ∙ f)))
    (λ f. let kept : numbered n (t ∷ without k ts) ≡ Some y = sym (ap (λ (b : Bool). numbered n (if not b then t ∷ without k ts else without k ts)) f) ∙ is in
    sym one ∙ some_same t y (sym (ap (λ (b : Bool). if b then Some t else numbered n (without k ts)) e) ∙ kept)))
    (λ e. let later : numbered n ts ≡ Some x = sym (ap (λ (b : Bool). if b then Some t else numbered n ts) e) ∙ was in
    by_test {G = x ≡ y} (t.number == k)
    (λ f. without_found n k ts x y later (sym (ap (λ (b : Bool). numbered n (if not b then t ∷ without k ts else without k ts)) f) ∙ is))
    (λ f. without_found n k ts x y later (sym (ap (λ (b : Bool). if b then Some t else numbered n (without k ts)) e) ∙ sym (ap (λ (b : Bool). numbered n (if not b then t ∷ without k ts else without k ts)) f) ∙ is)))

stay_without : (k : ℕ) (ts : List Txn) → Stay ts (without k ts)
stay_without k ts n x y was is = equal x y (without_found n k ts x y was is)

-- ---- a client that is up

-- where the client is up after it, its transactions stay
abbrev StayUp : List Txn → Option Up → Type 0
StayUp ts None = Unit {0}
StayUp ts (Some v) = Stay ts v.txns

at_up : (ts : List Txn) (o : Option Up) (v : Up) → o ≡ Some v → Stay ts v.txns → StayUp ts o
at_up ts o v h stay = subst (λ (x : Option Up). StayUp ts x) (sym h) stay

abbrev up_in : Side → Option Up
up_in s = s.client.up

note_end : (s : Side) (u : Up) (x : Note) (r : Reply) (d : Client) → Notes s u x (Some r) d → StayUp u.txns d.up
note_end s u x reply.JournalFull d h = at_up u.txns d.up u (ap (λ (c : Client). c.up) h.1) (stay_equal u.txns u.txns refl)
note_end s u x reply.DiskFault d h = at_up u.txns d.up (record u { closed = true }) (ap (λ (c : Client). c.up) h.1) (stay_equal u.txns u.txns refl)
note_end s u x reply.Crashed d h = subst (λ (o : Option Up). StayUp u.txns o) (sym (ap (λ (c : Client). c.up) h.1)) tt
note_end s u x _ d h = absurd h

asked : (b : Bool) (s : Side) (u : Up) (a : Ask) (r : Reply) (t : Side) → Move b s u a r t → StayUp u.txns t.client.up
asked b s u a r t (m.Stays h) = at_up u.txns (up_in t) u (ap up_in h) (stay_equal u.txns u.txns refl)
asked b s u a r t (m.Begun x free h) = at_up u.txns (up_in t) (record u { txns = u.txns ++ x ∷ [] }) (ap up_in h) (stay_more u.txns x)
asked b s u a r t (m.Held n x held is h) = at_up u.txns (up_in t) (with_txn u (record x { held = held })) (ap up_in h) (stay_held u.txns n x held is)
asked b s u a r t (m.Ended n h) = at_up u.txns (up_in t) _ (ap up_in h) (stay_without n u.txns)
asked b s u a r t (m.Tasked n job plain h) = at_up u.txns (up_in t) _ (ap up_in h) (stay_equal u.txns u.txns refl)
asked b s u a r t (m.Started n kind id none h) = at_up u.txns (up_in t) _ (ap up_in h) (stay_equal u.txns u.txns refl)
asked b s u a r t (m.Asked n none h) = at_up u.txns (up_in t) _ (ap up_in h) (stay_equal u.txns u.txns refl)
asked b s u a r t (m.Failed x f) = note_end s u x r t.client f.1
asked b s u a r t (m.Committed db base c h) = at_up u.txns (up_in t) _ (ap up_in h) (stay_equal u.txns u.txns refl)
asked b s u a r t (m.Reverted db d isa isr h) = at_up u.txns (up_in t) _ (ap up_in h) (stay_equal u.txns u.txns refl)
asked b s u a r t (m.Polled known h) = at_up u.txns (up_in t) _ (ap up_in h) (stay_equal u.txns u.txns refl)
asked b s u a r t (m.Resolved n known isb isr h) = at_up u.txns (up_in t) _ (ap up_in h) (stay_equal u.txns u.txns refl)
asked b s u a r t (m.Voided isb h) = at_up u.txns (up_in t) _ (ap up_in h) (stay_equal u.txns u.txns refl)

voided : (s : Side) (u : Up) (r : Reply) (t : Side) → Voids s u r t → StayUp u.txns t.client.up
voided s u r t (inl h) = at_up u.txns (up_in t) u (ap up_in h) (stay_equal u.txns u.txns refl)
voided s u r t (inr f) = note_end s u Voiding r t.client f.1

intended : (i : Bool) (s : Side) (u : Up) (q : Publication) → up_in (with_intent i s u q) ≡ Some u
intended true s u q = refl
intended false s u q = refl

published : (s : Side) (u : Up) (q : Publication) (n : Option ℕ) (r : Reply) (t : Side) (rest : Option Publication) → PublicationMove s u q n r t rest → StayUp u.txns t.client.up
published s u q n r t rest (p.Goes x g but like h is back) = at_up u.txns (up_in t) u (ap up_in h) (stay_equal u.txns u.txns refl)
published s u q n r t rest (p.EndsPlainly x but h is back) = at_up u.txns (up_in t) u (ap up_in h) (stay_equal u.txns u.txns refl)
published s u q n r t rest (p.EndsVoided x but v is back) = voided x u r t v
published s u q n r t rest (p.Unintended f is back) = note_end s u (intent_of q) r t.client f.1
published s u q n r t rest (p.Again g like h is back) = at_up u.txns (up_in t) u (ap up_in h ∙ intended q.intended s u q) (stay_equal u.txns u.txns refl)
published s u q n r t rest (p.Refused v is back) = voided (intended_side s u q) u r t v
published s u q n r t rest (p.Unknown h is back) = at_up u.txns (up_in t) u (ap up_in h ∙ intended q.intended s u q) (stay_equal u.txns u.txns refl)
published s u q n r t rest (p.Lost v f h is back) = at_up u.txns (up_in t) u (ap up_in h ∙ intended q.intended s u q) (stay_equal u.txns u.txns refl)
published s u q n r t rest (p.Made v f done h is back) = at_up u.txns (up_in t) _ (ap up_in h) (stay_equal u.txns u.txns refl)
published s u q n r t rest (p.Unfinished v k f fail is back) = note_end (appended_side s u q v) u (Finishing k) r t.client fail.1

-- a task that is given back changes no transaction
given_back : (ts : List Txn) (n : ℕ) (back : Option Publication) (mid : Side) → StayUp ts mid.client.up → StayUp ts (give_back n back mid).client.up
given_back ts n None mid h = h
given_back ts n (Some q) mid h = of_up mid.client.up h
  where
    of_up : (o : Option Up) → StayUp ts o → StayUp ts (option_map (λ (u : Up). with_task u n (Publishing q)) o)
    of_up None h = h
    of_up (Some u) h = h

same_up : (u v : Up) → Some u ≡ Some v → u ≡ v
same_up u v h = cc

-- ---- an act, and an event

acted : (s : Side) (what : Act) (said : Said) (t : Side) (u : Up) → s.client.up ≡ Some u → ActMove s what said t → StayUp u.txns t.client.up
acted s what said t u is_up (w.Left all is) = at_up u.txns (up_in t) u (all.up ∙ is_up) (stay_equal u.txns u.txns refl)
acted s what said t u is_up (w.Asked v a o up isa move is) = subst (λ (x : Up). StayUp x.txns t.client.up) (same_up v u (sym up ∙ is_up)) (asked false s v a said.reply t move)
acted s what said t u is_up (w.Stepped v rest a o number job up isa out move is) =
    subst (λ (x : Up). StayUp x.txns t.client.up) (same_up v u (sym up ∙ is_up)) (subst (λ (ts : List Txn). StayUp ts t.client.up) (ap (λ (x : Up). x.txns) out.left) (asked (ends_pending job) s rest a said.reply t move))
acted s what said t u is_up (w.Published v rest a o number q mid back up isa out move h) =
    subst (λ (x : Up). StayUp x.txns t.client.up) (same_up v u (sym up ∙ is_up)) (subst (λ (ts : List Txn). StayUp ts t.client.up) (ap (λ (x : Up). x.txns) out.left)
    (subst (λ (o : Option Up). StayUp rest.txns o) (sym (ap up_in h)) (given_back rest.txns number back mid (published s rest q said.published said.reply mid back move))))
acted s what said t u is_up (w.Crashed h is) = subst (λ (o : Option Up). StayUp u.txns o) (sym (ap up_in h)) tt
acted s what said t u is_up (w.Rose k isa left h is) = at_up u.txns (up_in t) new_up (ap up_in h) (λ (n : ℕ) (x y : Txn) was is. absurd (cc))

of_client : (a : State) (e : Event) (s : Said) (n : ℕ) (x y : Client) → Became a e s n x y → (u : Up) → x.up ≡ Some u → StayUp u.txns y.up
of_client a e s n x y (Unmoved h) u is_up = at_up u.txns y.up u (ap (λ (c : Client). c.up) h ∙ is_up) (stay_equal u.txns u.txns refl)
of_client a e s n x y (Moved what t is move h) u is_up =
    subst (λ (c : Client). StayUp u.txns c.up) (sym h) (acted (record { container = a.container; client = x }) what s t u is_up move)

pub images_stay : (a b : State) (e : Event) (s : Said) (c : Choice) → Next a e s c b → (n : ℕ) (before after : Client) → client_at a n ≡ Some before → client_at b n ≡ Some after
    → (u v : Up) → before.up ≡ Some u → after.up ≡ Some v → TxnsStay u v
images_stay a b e s c h n before after was is u v was_up is_up =
    subst (λ (o : Option Up). StayUp u.txns o) is_up (of_client a e s n before after (became a b e s c h n before after was is) u was_up)
