-- What the lines of the grammar keep to: the sizes of a world line, and those of an event's line.
use Rattle.std.proofs.Common.{◌≡◌, ℕ, suc, ◌-◌, ◌^◌, ◌+◌, ◌<◌, ◌≤◌, Bool, true, false, ◌&&◌, List, [], ◌∷◌, length, length-append, replicate, Some, None, Result, Ok, Err, refl, ap, ◌∙◌, sym, subst, arith}
use Rattle.std.specs.Prelude.{Option, nat_le, codes, if◌then◌else◌, ◌==◌}
use Rattle.std.specs.Option.{ok_or}
use Rattle.std.specs.Str.{bytes_eq}
use Rattle.std.specs.List.{AllByRecursion}
use Rattle.std.proofs.lemmas.Bool.{eqb-true, false≢true}
use Rattle.std.proofs.lemmas.Grind.{common_steps}
use Rattle.std.proofs.lemmas.List.{length-replicate}
use Rattle.std.proofs.lemmas.List.Splits.{length-slice_split}
use Rattle.std.proofs.lemmas.List.Sums.{count_by-le-length}
use Rattle.bcv_base.specs.Image.{Page}
use Rattle.bcv_base.specs.ManifestGrammar.{◌>>=◌, placed}
use Rattle.bcv_base.specs.ManifestRules.{is_block_size, is_page_size}
use Rattle.bcv_base.specs.declared.outcome.Outcome.{Outcome}
use Rattle.bcv_base.specs.declared.outcome.Outcome.TheVariants as outcome
use Rattle.bcv_model.specs.declared.ask.Ask.{Ask}
use Rattle.bcv_model.specs.declared.ask.Ask.TheVariants as ask
use Rattle.bcv_model.specs.declared.ask.Commit.{Commit}
use Rattle.bcv_model.specs.declared.event.Act.{Act}
use Rattle.bcv_model.specs.declared.event.Act.TheVariants as act
use Rattle.bcv_model.specs.declared.event.Event.{Event}
use Rattle.bcv_model.specs.declared.event.Event.TheVariants as event
use Rattle.bcv_model.specs.declared.spec.WorldSpec.{WorldSpec}
use Rattle.bcv_base.specs.Padded.{padded}
use Rattle.bcv_model.specs.declared.verb.Verb.{Verb}
use Rattle.bcv_model.specs.declared.verb.Verb.TheVariants as verb
use Rattle.bcv_model.specs.Script.{word_at, last_word_at, ended, pages_at, count_in, image_in, txn_in, fuse_at, txn_and_page_at, names_at, commit_at, new_at, step_at, world_at, world_of, act_at, asking, verbs, tick_at, client_at, event_at, event_of}
use Rattle.bcv_model.specs.Words as words
use Rattle.bcv_model.specs.Words.{words_of, bytes_left, given, exactly, is_number, value_of, number_in, block_size_of, page_size_of_word, slots_of, name_of, bytes_of_text, page_of_text, unhexed, meaning_in}
use Rattle.bcv_world.specs.LineEvents.{IsSpec, KeepsPages, KeepsAct, Keeps}
use Rattle.bcv_world.specs.LineLaws.{IsLineSpec, LineKeeps, WorldLineKeeps}

-- ---- one reading after another

bind_some : {A B : Type 0} (o : Option A) (f : A → Option B) (y : B) → words.◌>>=◌ o f ≡ Some y → (x : A) × (o ≡ Some x) × (f x ≡ Some y)
bind_some None f y e = cc
bind_some (Some x) f y e = (x, refl, e)

bind_ok : {A B : Type 0} (r : Result A ℕ) (f : A → Result B ℕ) (y : B) → (r >>= f) ≡ Ok y → (x : A) × (r ≡ Ok x) × (f x ≡ Ok y)
bind_ok (Ok x) f y e = (x, refl, e)
bind_ok (Err left) f y e = cc

some_is : {A : Type 0} (x y : A) → Some x ≡ Some y → x ≡ y
some_is x y e = cc

ok_is : {A : Type 0} (x y : A) → ◌≡◌ {A = Result A ℕ} (Ok x) (Ok y) → x ≡ y
ok_is x y e = cc

some_of_ok : {A : Type 0} (o : Option A) (n : ℕ) (x : A) → ok_or o n ≡ Ok x → o ≡ Some x
some_of_ok None n x e = cc
some_of_ok (Some y) n x e = cc

given_some : {A : Type 0} (t : Bool) (x y : A) → given t x ≡ Some y → (t ≡ true) × (x ≡ y)
given_some true x y e = (refl, some_is x y e)
given_some false x y e = cc

-- the word that was read, and those after it
word_ok : {A : Type 0} (meaning : List ℕ → Option A) (ws : List (List ℕ)) (x : A × List (List ℕ)) → word_at meaning ws ≡ Ok x → (w : List ℕ) × (ws ≡ w ∷ x.1) × (meaning w ≡ Some x.0)
word_ok meaning [] x e = cc
word_ok {A = A} meaning (w ∷ ws) x e =
    let b = bind_ok (ok_or (meaning w) (bytes_left (w ∷ ws))) (λ (y : A). Ok (y, ws)) x e in
    let same = ok_is (b.0, ws) x b.2 in
    (w, ap (λ (p : A × List (List ℕ)). w ∷ p.1) same, some_of_ok (meaning w) (bytes_left (w ∷ ws)) b.0 b.1 ∙ ap (λ (p : A × List (List ℕ)). Some p.0) same)

last_ok : {A : Type 0} (meaning : List ℕ → Option A) (ws : List (List ℕ)) (x : A) → last_word_at meaning ws ≡ Ok x → (w : List ℕ) × (meaning w ≡ Some x)
last_ok {A = A} meaning ws x e =
    let y = bind_ok (word_at meaning ws) (λ (y : A × List (List ℕ)). ended y.1 >>= λ u. Ok y.0) x e in
    let u = bind_ok (ended y.0.1) (λ (u : Unit {0}). Ok y.0.0) x y.2 in
    let w = word_ok meaning ws y.0 y.1 in
    (w.0, w.2 ∙ ap (λ (a : A). Some a) (ok_is y.0.0 x u.2))

placed_ok : {A : Type 0} (total : ℕ) (r : Result A ℕ) (x : A) → placed total r ≡ Ok x → r ≡ Ok x
placed_ok total (Ok y) x e = e
placed_ok total (Err left) x e = cc

in_range : (t : Bool) (low v high n : ℕ) → (if t && nat_le low v && nat_le v high then Some v else None) ≡ Some n → (low ≤ n) × (n ≤ high)
in_range t low v high n e = grind (arith, common_steps)

number_in_range : (low high : ℕ) (w : List ℕ) (n : ℕ) → number_in low high w ≡ Some n → (low ≤ n) × (n ≤ high)
number_in_range low high w n e = in_range (is_number w) low (value_of w) high n e

-- ---- the world line

block_ok : (w : List ℕ) (b : ℕ) → block_size_of w ≡ Some b → is_block_size b ≡ true
block_ok w b e =
    let n = bind_some (number_in 512 16777216 w) (λ (n : ℕ). given (is_block_size n) n) b e in
    let g = given_some (is_block_size n.0) n.0 b n.2 in
    subst (λ (x : ℕ). is_block_size x ≡ true) g.1 g.0

page_ok : (block : ℕ) (w : List ℕ) (p : ℕ) → page_size_of_word block w ≡ Some p → is_page_size block p ≡ true
page_ok block w p e =
    let n = bind_some (number_in 512 65536 w) (λ (n : ℕ). given (is_page_size block n) n) p e in
    let g = given_some (is_page_size block n.0) n.0 p n.2 in
    subst (λ (x : ℕ). is_page_size block x ≡ true) g.1 g.0

abbrev spec_with : ℕ → ℕ → ℕ → ℕ → ℕ → WorldSpec
spec_with c b p r s = record { clients = c; block = b; page = p; retention = r; slots = s }

is_spec : (c b p r s : ℕ) (spec : WorldSpec) → spec_with c b p r s ≡ spec → c ≤ 16 → is_block_size b ≡ true → is_page_size b p ≡ true → r ≤ 2 ^ 64 - 1 → IsLineSpec spec
is_spec c b p r s spec e few x y z =
    let here : IsLineSpec (spec_with c b p r s) = record { sizes = record { block = x; page = y; retention = omega arith }; clients = few } in
    subst IsLineSpec e here

-- what is read after each word
abbrev after_retention : ℕ → ℕ → ℕ → (ℕ × List (List ℕ)) → Result WorldSpec ℕ
after_retention c b p r = last_word_at (slots_of b) r.1 >>= λ s. Ok (spec_with c b p r.0 s)

abbrev after_page : ℕ → ℕ → (ℕ × List (List ℕ)) → Result WorldSpec ℕ
after_page c b p = word_at (number_in 0 (2 ^ 64 - 1)) p.1 >>= after_retention c b p.0

abbrev after_block : ℕ → (ℕ × List (List ℕ)) → Result WorldSpec ℕ
after_block c b = word_at (page_size_of_word b.0) b.1 >>= after_page c b.0

abbrev after_clients : (ℕ × List (List ℕ)) → Result WorldSpec ℕ
after_clients c = word_at block_size_of c.1 >>= after_block c.0

abbrev after_word : (List ℕ × List (List ℕ)) → Result WorldSpec ℕ
after_word w = word_at (number_in 1 16) w.1 >>= after_clients

words_spec : (ws : List (List ℕ)) (spec : WorldSpec) → world_at ws ≡ Ok spec → IsLineSpec spec
unfolding world_at
words_spec ws spec e =
    let w = bind_ok (word_at (exactly (codes "world")) ws) after_word spec e in
    let c = bind_ok (word_at (number_in 1 16) w.0.1) after_clients spec w.2 in
    let b = bind_ok (word_at block_size_of c.0.1) (after_block c.0.0) spec c.2 in
    let p = bind_ok (word_at (page_size_of_word b.0.0) b.0.1) (after_page c.0.0 b.0.0) spec b.2 in
    let r = bind_ok (word_at (number_in 0 (2 ^ 64 - 1)) p.0.1) (after_retention c.0.0 b.0.0 p.0.0) spec p.2 in
    let s = bind_ok (last_word_at (slots_of b.0.0) r.0.1) (λ (s : ℕ). Ok (spec_with c.0.0 b.0.0 p.0.0 r.0.0 s)) spec r.2 in
    let clients = word_ok (number_in 1 16) w.0.1 c.0 c.1 in
    let block = word_ok block_size_of c.0.1 b.0 b.1 in
    let page = word_ok (page_size_of_word b.0.0) b.0.1 p.0 p.1 in
    let retention = word_ok (number_in 0 (2 ^ 64 - 1)) p.0.1 r.0 r.1 in
    is_spec c.0.0 b.0.0 p.0.0 r.0.0 s.0 spec (ok_is (spec_with c.0.0 b.0.0 p.0.0 r.0.0 s.0) spec s.2)
    (number_in_range 1 16 clients.0 c.0.0 clients.2).1 (block_ok block.0 b.0.0 block.2) (page_ok b.0.0 page.0 p.0.0 page.2)
    (number_in_range 0 (2 ^ 64 - 1) retention.0 r.0.0 retention.2).1

pub world_line_keeps : WorldLineKeeps
unfolding world_of
world_line_keeps line spec e = words_spec (words_of line) spec (placed_ok (length line) (world_at (words_of line)) spec e)

-- ---- pages

-- there are no more words than one and the spaces
words_few : (line : List ℕ) → length (words_of line) ≤ length line + 1
words_few line = omega (arith, length-slice_split (λ b. b == 32) line, count_by-le-length (λ b. b == 32) line)

padded_length : (size : ℕ) (bytes : List ℕ) → length bytes ≤ size → length (padded size bytes) ≡ size
padded_length size bytes h = omega (arith, length-append bytes (replicate (size - length bytes) 0), length-replicate {A = ℕ} (size - length bytes) 0)

short_of : (t : Bool) (n most : ℕ) → (t && nat_le n most) ≡ true → n ≤ most
short_of t n most e = grind (arith, common_steps)

-- a text writes at most a page
either_short : (size : ℕ) (t : Bool) (o : Option (List ℕ)) (bytes : List ℕ) → (if t then Some [] else words.◌>>=◌ o (λ bs. given (nat_le 1 (length bs) && nat_le (length bs) size) bs)) ≡ Some bytes → length bytes ≤ size
either_short size true o bytes e = let none = ap (λ (b : List ℕ). length b) (some_is [] bytes e) in omega (arith, none)
either_short size false o bytes e =
    let b = bind_some o (λ (bs : List ℕ). given (nat_le 1 (length bs) && nat_le (length bs) size) bs) bytes e in
    let g = given_some (nat_le 1 (length b.0) && nat_le (length b.0) size) b.0 bytes b.2 in
    subst (λ (l : List ℕ). length l ≤ size) g.1 (short_of (nat_le 1 (length b.0)) (length b.0) size g.0)

page_length : (size : ℕ) (w : List ℕ) (page : Page) → page_of_text size w ≡ Some page → length page ≡ size
page_length size w page e =
    let b = bind_some (bytes_of_text size w) (λ (bytes : List ℕ). Some (padded size bytes)) page e in
    subst (λ (l : Page). length l ≡ size) (some_is (padded size b.0) page b.2) (padded_length size b.0 (either_short size (bytes_eq w (codes "-")) (unhexed w) b.0 b.1))

-- each word wrote a page of the size
record ReadPages (size : ℕ) (ws : List (List ℕ)) (ps : List Page) : Type 0 where
  each : AllByRecursion (λ (p : Page). length p ≡ size) ps
  count : length ps ≡ length ws

pages_read : (size : ℕ) (ws : List (List ℕ)) (ps : List Page) → pages_at size ws ≡ Ok ps → ReadPages size ws ps
pages_read size [] ps e =
    let none : ReadPages size [] [] = record { each = tt; count = refl } in
    subst (ReadPages size []) (ok_is {A = List Page} [] ps e) none
pages_read size (w ∷ ws) ps e =
    let p = bind_ok (ok_or (page_of_text size w) (bytes_left (w ∷ ws))) _ ps e in
    let q = bind_ok (pages_at size ws) _ ps p.2 in
    let more = pages_read size ws q.0 q.1 in
    let here : ReadPages size (w ∷ ws) (p.0 ∷ q.0) = record { each = (page_length size w p.0 (some_of_ok (page_of_text size w) (bytes_left (w ∷ ws)) p.0 p.1), more.each); count = ap suc more.count } in
    subst (ReadPages size (w ∷ ws)) (ok_is {A = List Page} (p.0 ∷ q.0) ps q.2) here

-- ---- what happens to a client

-- what was read keeps to the world
abbrev IsKept : WorldSpec → Result Act ℕ → Type 0
IsKept spec (Err left) = Unit {0}
IsKept spec (Ok what) = KeepsAct spec what

bind_kept : {A : Type 0} (spec : WorldSpec) (r : Result A ℕ) (f : A → Result Act ℕ) → ((x : A) → r ≡ Ok x → IsKept spec (f x)) → IsKept spec (r >>= f)
bind_kept spec (Err left) f h = tt
bind_kept spec (Ok x) f h = h x refl

new_pages : (spec : WorldSpec) (ws : List (List ℕ)) (x : List ℕ × List Page) → length ws < 2 ^ 31 → new_at spec.page ws ≡ Ok x → KeepsPages spec spec.page x.1
new_pages spec ws x few e =
    let d = bind_ok (word_at name_of ws) _ x e in
    let p = bind_ok (pages_at spec.page d.0.1) _ x d.2 in
    let w = word_ok name_of ws d.0 d.1 in
    let read = pages_read spec.page d.0.1 p.0 p.1 in
    let here : KeepsPages spec spec.page p.0 = record { same_size = refl; each = read.each; few = omega (arith, read.count, ap (λ (l : List (List ℕ)). length l) w.1, few) } in
    subst (λ (y : List ℕ × List Page). KeepsPages spec spec.page y.1) (ok_is (d.0.0, p.0) x p.2) here

-- an image is one of five
image_few : (w : List ℕ) (image : ℕ) → image_in w ≡ Some image → image < 5
image_few w image e = omega (arith, (number_in_range 0 4 w image e).1)

crash_image : (ws : List (List ℕ)) (image : ℕ) → last_word_at image_in ws ≡ Ok image → image < 5
crash_image ws image e = let w = last_ok image_in ws image e in image_few w.0 image w.1

fuse_image : (ws : List (List ℕ)) (x : ℕ × ℕ) → fuse_at ws ≡ Ok x → x.1 < 5
fuse_image ws x e =
    let c = bind_ok (word_at count_in ws) _ x e in
    let i = bind_ok (last_word_at image_in c.0.1) _ x c.2 in
    subst (λ (y : ℕ × ℕ). y.1 < 5) (ok_is (c.0.0, i.0) x i.2) (crash_image c.0.1 i.0 i.1)

act_kept : (spec : WorldSpec) (v : Verb) (ws : List (List ℕ)) → length ws < 2 ^ 31 → IsKept spec (act_at spec v ws)
unfolding act_at
act_kept spec verb.Up ws few = bind_kept spec (ended ws) (λ (u : Unit {0}). Ok act.Up) (λ x e. tt)
act_kept spec verb.Crash ws few = bind_kept spec (last_word_at image_in ws) (λ (image : ℕ). Ok (act.Crash image)) (λ x e. crash_image ws x e)
act_kept spec verb.Fuse ws few = bind_kept spec (fuse_at ws) (λ (x : ℕ × ℕ). Ok (act.Fuse x.0 x.1)) (λ x e. fuse_image ws x e)
act_kept spec verb.Fail ws few = bind_kept spec (last_word_at count_in ws) (λ (calls : ℕ). Ok (act.FailAt calls)) (λ x e. tt)
act_kept spec verb.Begin ws few = bind_kept spec (last_word_at name_of ws) (λ (db : List ℕ). Ok (asking (ask.Begin db))) (λ x e. tt)
act_kept spec verb.Read ws few = bind_kept spec (txn_and_page_at ws) (λ (x : ℕ × ℕ). Ok (asking (ask.Read x.0 x.1))) (λ x e. tt)
act_kept spec verb.Hold ws few = bind_kept spec (txn_and_page_at ws) (λ (x : ℕ × ℕ). Ok (asking (ask.Hold x.0 x.1))) (λ x e. tt)
act_kept spec verb.Look ws few = bind_kept spec (txn_and_page_at ws) (λ (x : ℕ × ℕ). Ok (asking (ask.Look x.0 x.1))) (λ x e. tt)
act_kept spec verb.Free ws few = bind_kept spec (txn_and_page_at ws) (λ (x : ℕ × ℕ). Ok (asking (ask.Free x.0 x.1))) (λ x e. tt)
act_kept spec verb.End ws few = bind_kept spec (last_word_at txn_in ws) (λ (txn : ℕ). Ok (asking (ask.End txn))) (λ x e. tt)
act_kept spec verb.Commit ws few = bind_kept spec (commit_at spec.page ws) (λ (x : List ℕ × Commit). Ok (asking (ask.Commit x.0 x.1))) (λ x e. tt)
act_kept spec verb.Revert ws few = bind_kept spec (last_word_at name_of ws) (λ (db : List ℕ). Ok (asking (ask.Revert db))) (λ x e. tt)
act_kept spec verb.List ws few = bind_kept spec (ended ws) (λ (u : Unit {0}). Ok (asking ask.List)) (λ x e. tt)
act_kept spec verb.Create ws few = bind_kept spec (ended ws) (λ (u : Unit {0}). Ok (asking (ask.Create spec.block spec.retention))) (λ x e. (refl, refl))
act_kept spec verb.New ws few = bind_kept spec (new_at spec.page ws) (λ (x : List ℕ × List Page). Ok (asking (ask.NewDb x.0 spec.page x.1))) (λ x e. new_pages spec ws x few e)
act_kept spec verb.Upload ws few = bind_kept spec (last_word_at name_of ws) (λ (db : List ℕ). Ok (asking (ask.Upload db))) (λ x e. tt)
act_kept spec verb.Copy ws few = bind_kept spec (names_at ws) (λ (x : List ℕ × List ℕ). Ok (asking (ask.Copy x.0 x.1))) (λ x e. tt)
act_kept spec verb.Drop ws few = bind_kept spec (last_word_at name_of ws) (λ (db : List ℕ). Ok (asking (ask.Remove db))) (λ x e. tt)
act_kept spec verb.Poll ws few = bind_kept spec (ended ws) (λ (u : Unit {0}). Ok (asking ask.Poll)) (λ x e. tt)
act_kept spec verb.Cleanup ws few = bind_kept spec (ended ws) (λ (u : Unit {0}). Ok (asking ask.Cleanup)) (λ x e. tt)
act_kept spec verb.Resolve ws few = bind_kept spec (ended ws) (λ (u : Unit {0}). Ok (asking ask.Resolve)) (λ x e. tt)
act_kept spec verb.Step ws few = bind_kept spec (step_at ws) (λ (x : ℕ × Outcome). Ok (act.Ask (ask.Step x.0) x.1)) (λ x e. tt)

kept_of : (spec : WorldSpec) (r : Result Act ℕ) (what : Act) → IsKept spec r → r ≡ Ok what → KeepsAct spec what
kept_of spec (Err left) what k e = cc
kept_of spec (Ok y) what k e = subst (KeepsAct spec) (ok_is y what e) k

-- ---- the line

client_kept : (spec : WorldSpec) (ws : List (List ℕ)) (e : Event) → length ws < 2 ^ 31 → client_at spec ws ≡ Ok e → Keeps spec e
client_kept spec ws e few x =
    let c = bind_ok (word_at (number_in 1 spec.clients) ws) _ e x in
    let v = bind_ok (word_at (meaning_in verbs) c.0.1) _ e c.2 in
    let a = bind_ok (act_at spec v.0.0 v.0.1) _ e v.2 in
    let client = word_ok (number_in 1 spec.clients) ws c.0 c.1 in
    let kind = word_ok (meaning_in verbs) c.0.1 v.0 v.1 in
    let range = number_in_range 1 spec.clients client.0 c.0.0 client.2 in
    let shorter : length v.0.1 < 2 ^ 31 = omega (arith, ap (λ (l : List (List ℕ)). length l) client.1, ap (λ (l : List (List ℕ)). length l) kind.1, few) in
    let here : Keeps spec (event.Of c.0.0 a.0) = (range.0, range.1, kept_of spec (act_at spec v.0.0 v.0.1) a.0 (act_kept spec v.0.0 v.0.1 shorter) a.1) in
    subst (Keeps spec) (ok_is (event.Of c.0.0 a.0) e a.2) here

tick_kept : (spec : WorldSpec) (ws : List (List ℕ)) (e : Event) → tick_at ws ≡ Ok e → Keeps spec e
tick_kept spec ws e x =
    let s = bind_ok (last_word_at (number_in 0 (2 ^ 64 - 1)) ws) _ e x in
    let here : Keeps spec (event.Tick s.0) = tt in
    subst (Keeps spec) (ok_is (event.Tick s.0) e s.2) here

either_kept : (spec : WorldSpec) (t : Bool) (a b : Result Event ℕ) (e : Event) → (a ≡ Ok e → Keeps spec e) → (b ≡ Ok e → Keeps spec e) → (if t then a else b) ≡ Ok e → Keeps spec e
either_kept spec true a b e p q x = p x
either_kept spec false a b e p q x = q x

words_kept : (spec : WorldSpec) (ws : List (List ℕ)) (e : Event) → length ws < 2 ^ 31 → event_at spec ws ≡ Ok e → Keeps spec e
unfolding event_at
words_kept spec [] e few x = cc
words_kept spec (w ∷ ws) e few x =
    either_kept spec (bytes_eq w (codes "tick")) (tick_at ws) (client_at spec (w ∷ ws)) e (tick_kept spec ws e) (client_kept spec (w ∷ ws) e few) x

pub line_keeps : LineKeeps
unfolding event_of
line_keeps spec line e short x =
    words_kept spec (words_of line) e (omega (arith, words_few line, short)) (placed_ok (length line) (event_at spec (words_of line)) e x)
