-- Bytes of a room between two places, moved to its front, and more after them.
use Rattle.std.proofs.Common.{◌≡◌, ℕ, ◌+◌, ◌-◌, ◌<◌, ◌≤◌, List, ◌++◌, length, take, drop, sym, ap, ◌∙◌, length-append, length-drop, arith}
use Rattle.std.proofs.lemmas.List.{drop-take, length-take-le, take-append-le}
use Rattle.std.proofs.lemmas.List.Edits.{take-paste}
use Rattle.std.proofs.Math.Seq.{take-append-add, take-append_seam}
use Rattle.std.specs.List.{copy_within}
use Rattle.std.specs.Io.KnownBytes.{Consumes}
use Rattle.std.specs.Prelude.{Option}
use Rattle.bcv_base.specs.Streams.{Takes}
use Rattle.bcv_base.specs.declared.source.Took.{Took}
use Rattle.bcv_base.specs.declared.source.Took.TheVariants as took
use Rattle.bcv_inbox.specs.Refilled.{Fills, Grows}

pub moved_to_front : (xs : List ℕ) (from to : ℕ) → from ≤ to → to ≤ length xs → take (to - from) (copy_within xs from to 0) ≡ drop from (take to xs)
moved_to_front xs from to f t =
    let short : to - from ≤ length (drop from xs) = omega (arith, length-drop from xs) in
    let none : 0 + (to - from) ≡ to - from = omega arith in
    let all : from + (to - from) ≡ to = omega arith in
    ap (λ (n : ℕ). take n (copy_within xs from to 0)) (sym none) ∙ take-paste xs 0 (drop from xs) (to - from) (omega arith) short
    ∙ sym (drop-take from (to - from) xs) ∙ ap (λ (n : ℕ). drop from (take n xs)) all

-- so many bytes of what was put after the front
pub more_after : (room into back : List ℕ) (held count : ℕ) → held ≤ length room → count ≤ length into
    → take (held + count) (take held room ++ (into ++ back)) ≡ take held room ++ take count into
more_after room into back held count h k =
    let e : held ≡ length (take held room) = sym (length-take-le held room h) in
    ap (λ (n : ℕ). take (n + count) (take held room ++ (into ++ back))) e ∙ take-append-add (take held room) (into ++ back) count
    ∙ ap (λ (l : List ℕ). take held room ++ l) (take-append-le count into back k)

pub grows_after : (old new : Option (List ℕ)) (room into back : List ℕ) (held count : ℕ) → held ≤ length room → count ≤ length into → 0 < count → Consumes old new (take count into)
    → Grows old new (take held room) (take (held + count) (take held room ++ (into ++ back)))
grows_after old new room into back held count h k z c = record {
  more = take count into;
  some = omega (arith, length-take-le count into k, z);
  joined = more_after room into back held count h k;
  consumes = c;
}

same_front : (room back : List ℕ) (held : ℕ) → held ≤ length room → take held (take held room ++ back) ≡ take held room
same_front room back held h =
    let e : length (take held room) ≡ held = length-take-le held room h in
    ap (λ (n : ℕ). take n (take held room ++ back)) (sym e) ∙ take-append_seam (take held room) back

-- what a take into the end of a room leaves of it
pub filled : (old new : Option (List ℕ)) (room into back : List ℕ) (held : ℕ) (t : Took) → held ≤ length room → Takes old new t into
    → Fills old new t held room (take held room ++ (into ++ back))
filled old new room into back held (took.Some n) h t =
    let front : length (take held room) ≡ held = length-take-le held room h in
    let all : length (take held room ++ (into ++ back)) ≡ length (take held room) + length (into ++ back) = length-append (take held room) (into ++ back) in
    let rest : length (into ++ back) ≡ length into + length back = length-append into back in
    (omega (arith, t.1, front, all, rest), grows_after old new room into back held n h t.1 t.0 t.2)
filled old new room into back held took.End h t = (same_front room (into ++ back) held h, t.0, t.1)
filled old new room into back held took.Failed h t = (same_front room (into ++ back) held h, t)
