-- Each client of a state after an event: it is as it was, or the event is one of its own.
use Rattle.std.proofs.Common.{◌≡◌, ◌≢◌, ◌∙◌, ℕ, zero, suc, ◌-◌, ◌<◌, ◌≤◌, ◌==◌, Bool, true, false, List, length, Option, Some, None, slice_get, slice_set, get_or, replicate, if◌then◌else◌, refl, sym, ap, subst, arith}
use Rattle.std.proofs.lemmas.Bool.{false≢true, eqb-true, eq-eqb}
use Rattle.std.proofs.lemmas.List.{length-replicate, get_or-replicate, length-set, get_or-set_same, get_or-set_other}
use Rattle.std.proofs.lemmas.Option.{slice_get_within, slice_get-get_or, get_or_from_slice_get}
use Rattle.bcv_model.specs.declared.event.Act.{Act}
use Rattle.bcv_model.specs.declared.event.Event.{Event}
use Rattle.bcv_model.specs.declared.event.Event.TheVariants as event
use Rattle.bcv_model.specs.declared.reply.Said.{Said}
use Rattle.bcv_machine.specs.State.{State, Side, Client, client_at, put_back, first_state, new_client}
use Rattle.bcv_machine.specs.Step.{Choice, Next, NextOf}
use Rattle.bcv_machine.proofs.ActMoves as w
use Rattle.bcv_machine.proofs.ActMoves.{ActMove}

pub by_test : {G : Type 0} (b : Bool) → (b ≡ true → G) → (b ≡ false → G) → G
by_test true f g = f refl
by_test false f g = g refl

same_some : {A : Type 0} (a b : A) → Some a ≡ Some b → a ≡ b
same_some a b e = cc

-- a client that is there has a number from 1, and stands at its place
place_of : (a : State) (n : ℕ) (x : Client) → client_at a n ≡ Some x → ((n == 0) ≡ false) × (slice_get a.clients (n - 1) ≡ Some x)
place_of a n x h =
    by_test {G = ((n == 0) ≡ false) × (slice_get a.clients (n - 1) ≡ Some x)} (n == 0)
    (λ e. absurd (none_is_some x (sym (ap (λ (b : Bool). if b then None else slice_get a.clients (n - 1)) e) ∙ h)))
    (λ e. (e, sym (ap (λ (b : Bool). if b then None else slice_get a.clients (n - 1)) e) ∙ h))
  where
    none_is_some : (x : Client) → None ≡ Some x → ⊥
    none_is_some x e = absurd (cc)

at_place : (a : State) (n : ℕ) (x : Client) → (n == 0) ≡ false → slice_get a.clients (n - 1) ≡ Some x → client_at a n ≡ Some x
at_place a n x e h = ap (λ (b : Bool). if b then None else slice_get a.clients (n - 1)) e ∙ h

set_here : (l : List Client) (i : ℕ) (d z : Client) → slice_get l i ≡ Some z → slice_get (slice_set l i d) i ≡ Some d
set_here l i d z h =
    let inside : i < length l = slice_get_within l i z h in
    slice_get-get_or (slice_set l i d) i d (omega (arith, inside, length-set l i d)) ∙ ap Some (get_or-set_same l i d d inside)

set_there : (l : List Client) (i j : ℕ) (d x y : Client) → j ≢ i → slice_get l j ≡ Some x → slice_get (slice_set l i d) j ≡ Some y → y ≡ x
set_there l i j d x y ne was is =
    sym (get_or_from_slice_get (slice_set l i d) j y y is) ∙ get_or-set_other l i j d y ne ∙ get_or_from_slice_get l j x y was

-- what became of client n: nothing, or what the act of its event did
pub data Became (a : State) (e : Event) (s : Said) (n : ℕ) (x y : Client) : Type 0 where
  Unmoved : y ≡ x → Became a e s n x y
  Moved : (what : Act) (t : Side) → e ≡ event.Of n what → ActMove (record { container = a.container; client = x }) what s t → y ≡ t.client → Became a e s n x y

put_there : (a b : State) (m : ℕ) (d : Client) (what : Act) (s : Said) (t : Side) (n : ℕ) (x y : Client) → client_at a m ≡ Some d → b ≡ put_back a m t → ActMove (record { container = a.container; client = d }) what s t
    → client_at a n ≡ Some x → client_at b n ≡ Some y → Became a (event.Of m what) s n x y
put_there a b m d what s t n x y is_d back move was is =
    let now : client_at (put_back a m t) n ≡ Some y = sym (ap (λ (z : State). client_at z n) back) ∙ is in
    by_test {G = Became a (event.Of m what) s n x y} (n == m)
    (λ e. here (eqb-true n m e) now)
    (λ e. Unmoved (set_there a.clients (m - 1) (n - 1) t.client x y (apart e) (place_of a n x was).1 (place_of (put_back a m t) n y now).1))
  where
    here : n ≡ m → client_at (put_back a m t) n ≡ Some y → Became a (event.Of m what) s n x y
    here e now =
        let same : x ≡ d = same_some x d (sym was ∙ ap (λ (k : ℕ). client_at a k) e ∙ is_d) in
        let after : client_at (put_back a m t) m ≡ Some t.client = at_place (put_back a m t) m t.client (place_of a m d is_d).0 (set_here a.clients (m - 1) t.client d (place_of a m d is_d).1) in
        Moved what t (ap (λ (k : ℕ). event.Of k what) (sym e)) (subst (λ (z : Client). ActMove (record { container = a.container; client = z }) what s t) (sym same) move)
        (same_some y t.client (sym now ∙ ap (λ (k : ℕ). client_at (put_back a m t) k) e ∙ after))

    from_one : (k : ℕ) → (k == 0) ≡ false → 1 ≤ k
    from_one zero e = absurd (false≢true (sym e))
    from_one (suc k) e = omega arith

    apart : (n == m) ≡ false → (n - 1) ≢ (m - 1)
    apart e h = absurd (false≢true (sym e ∙ eq-eqb n m (omega (arith, h, from_one n (place_of a n x was).0, from_one m (place_of a m d is_d).0))))

next_of : (a b : State) (m : ℕ) (d : Option Client) (what : Act) (s : Said) (c : Choice) (n : ℕ) (x y : Client) → client_at a m ≡ d → NextOf a m d what s c b
    → client_at a n ≡ Some x → client_at b n ≡ Some y → Became a (event.Of m what) s n x y
next_of a b m None what s c n x y is_d h was is = absurd h
next_of a b m (Some d) what s c n x y is_d h was is =
    put_there a b m d what s h.1.0 n x y is_d h.1.2 (w.acts (record { container = a.container; client = d }) d.up what s c h.1.0 refl h.1.1) was is

pub became : (a b : State) (e : Event) (s : Said) (c : Choice) → Next a e s c b → (n : ℕ) (x y : Client) → client_at a n ≡ Some x → client_at b n ≡ Some y → Became a e s n x y
became a b (event.Tick k) s c h n x y was is = Unmoved (same_some y x (sym is ∙ ap (λ (z : State). client_at z n) h.1 ∙ was))
became a b (event.Of m what) s c h n x y was is = next_of a b m (client_at a m) what s c n x y refl h was is

-- ---- the clients of a state

count_of_next : (a b : State) (m : ℕ) (d : Option Client) (what : Act) (s : Said) (c : Choice) → NextOf a m d what s c b → length b.clients ≡ length a.clients
count_of_next a b m None what s c h = absurd h
count_of_next a b m (Some d) what s c h = ap (λ (z : State). length z.clients) h.1.2 ∙ length-set a.clients (m - 1) h.1.0.client

same_count : (a b : State) (e : Event) (s : Said) (c : Choice) → Next a e s c b → length b.clients ≡ length a.clients
same_count a b (event.Tick k) s c h = ap (λ (z : State). length z.clients) h.1
same_count a b (event.Of m what) s c h = count_of_next a b m (client_at a m) what s c h

-- a client that is there was there before
pub was_there : (a b : State) (e : Event) (s : Said) (c : Choice) → Next a e s c b → (n : ℕ) (y : Client) → client_at b n ≡ Some y → (x : Client) × (client_at a n ≡ Some x)
was_there a b e s c h n y is =
    let place = place_of b n y is in
    let inside : n - 1 < length a.clients = subst (λ (k : ℕ). n - 1 < k) (same_count a b e s c h) (slice_get_within b.clients (n - 1) y place.1) in
    (get_or a.clients (n - 1) y, at_place a n (get_or a.clients (n - 1) y) place.0 (slice_get-get_or a.clients (n - 1) y inside))

-- at first each client is new
pub first_client : (clients slots n : ℕ) (x : Client) → client_at (first_state clients slots) n ≡ Some x → new_client slots ≡ x
first_client clients slots n x h =
    let place = place_of (first_state clients slots) n x h in
    let inside : n - 1 < length (replicate clients (new_client slots)) = slice_get_within (replicate clients (new_client slots)) (n - 1) x place.1 in
    sym (get_or-replicate clients (n - 1) (new_client slots) x (subst (λ (k : ℕ). n - 1 < k) (length-replicate clients (new_client slots)) inside))
    ∙ get_or_from_slice_get (replicate clients (new_client slots)) (n - 1) x x place.1
