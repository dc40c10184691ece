-- Laws of logs: what one more entry changes, and what stays under further ones.
use Rattle.std.proofs.Common.{◌≡◌, ◌∙◌, ℕ, ◌+◌, ◌<◌, Bool, true, false, ◌&&◌, List, [], ◌∷◌, ◌++◌, Option, Some, None, nat_lt, if◌then◌else◌, refl, sym, ap, arith}
use Rattle.std.proofs.lemmas.Slice.Eq.{bytes_eq-Decides}
use Rattle.std.proofs.lemmas.List.Folds.{list_all-append}
use Rattle.std.proofs.lemmas.List.Sums.{sum_by-append}
use Rattle.std.specs.List.{list_all}
use Rattle.std.specs.Cmp.{first_so, second_so}
use borrow.Author.Tests.{ltb-true}
use Rattle.bcv_base.specs.declared.object.ObjName.{ObjName}
use Rattle.bcv_base.specs.declared.object.ObjName.TheVariants as object
use Rattle.bcv_base.specs.declared.log.Entry.{Entry}
use Rattle.bcv_base.specs.declared.log.Entry.TheVariants as entry
use Rattle.bcv_base.specs.Log.{Object, name_eq, entry_name, entry_object, object_step, object_after, object_of, is_put_of, put_count, rises_over, may_follow, are_rising}

-- ---- names

-- each name is its own
pub name_eq-self : (name : ObjName) → name_eq name name ≡ true
name_eq-self object.Manifest = refl
name_eq-self (object.Block i) = (bytes_eq-Decides i.0 i.0).1 refl

-- two names of one object are equal
pub name_eq-is : (a b : ObjName) → name_eq a b ≡ true → a ≡ b
name_eq-is object.Manifest object.Manifest h = refl
name_eq-is object.Manifest (object.Block j) h = absurd (cc)
name_eq-is (object.Block i) object.Manifest h = absurd (cc)
name_eq-is (object.Block i) (object.Block j) h = ap (λ (bytes : List ℕ). object.Block (record { 0 = bytes })) ((bytes_eq-Decides i.0 j.0).0 h)

-- ---- the object of a name

-- behind further entries, in two steps
pub object_after-append : (name : ObjName) (o : Option Object) (log more : List Entry) → object_after name o (log ++ more) ≡ object_after name (object_after name o log) more
object_after-append name o [] more = refl
object_after-append name o (e ∷ es) more = object_after-append name (object_step name o e) es more

-- behind one more entry
pub object_of-more : (name : ObjName) (log : List Entry) (e : Entry) → object_of name (log ++ e ∷ []) ≡ object_step name (object_of name log) e
object_of-more name log e = object_after-append name None log (e ∷ [])

-- an entry of another name leaves it
pub object_of-other : (name : ObjName) (log : List Entry) (e : Entry) → name_eq (entry_name e) name ≡ false → object_of name (log ++ e ∷ []) ≡ object_of name log
object_of-other name log e h = object_of-more name log e ∙ ap (λ (b : Bool). if b then entry_object e else object_of name log) h

-- an entry of the name makes it
pub object_of-same : (log : List Entry) (e : Entry) → object_of (entry_name e) (log ++ e ∷ []) ≡ entry_object e
object_of-same log e = object_of-more (entry_name e) log e ∙ ap (λ (b : Bool). if b then entry_object e else object_of (entry_name e) log) (name_eq-self (entry_name e))

-- a put of the name is the object
pub object_of-put : (log : List Entry) (own : Bool) (name : ObjName) (bytes : List ℕ) (etag : ℕ)
    → object_of name (log ++ entry.Put own name bytes etag ∷ []) ≡ Some (record { bytes = bytes; etag = etag })
object_of-put log own name bytes etag = object_of-same log (entry.Put own name bytes etag)

-- behind a deletion of the name there is none
pub object_of-deleted : (log : List Entry) (own : Bool) (name : ObjName) (at : ℕ) → object_of name (log ++ entry.Deleted own name at ∷ []) ≡ None
object_of-deleted log own name at = object_of-same log (entry.Deleted own name at)

-- ---- how often something was put

pub put_count-append : (name : ObjName) (log more : List Entry) → put_count name (log ++ more) ≡ put_count name log + put_count name more
put_count-append name log more = sum_by-append _ log more

pub put_count-cons : (name : ObjName) (e : Entry) (es : List Entry) → put_count name (e ∷ es) ≡ (if is_put_of name e then 1 else 0) + put_count name es
put_count-cons name e es = put_count-append name (e ∷ []) es ∙ omega arith

-- ---- etags that rise

shuffle : (a b c d : Bool) → ((a && (c && true)) && (b && d)) ≡ ((a && b) && (c && d))
shuffle true true true d = refl
shuffle true true false d = refl
shuffle true false true d = refl
shuffle true false false d = refl
shuffle false b c d = refl

-- a log with one more entry rises where the log does and the entry may follow it
pub are_rising-more : (log : List Entry) (e : Entry) → are_rising (log ++ e ∷ []) ≡ (are_rising log && may_follow log e)
are_rising-more [] e = refl
are_rising-more (first ∷ es) e =
    ap (λ (b : Bool). b && are_rising (es ++ e ∷ [])) (list_all-append (rises_over first) es (e ∷ []))
    ∙ ap (λ (b : Bool). (list_all (rises_over first) es && (rises_over first e && true)) && b) (are_rising-more es e)
    ∙ shuffle (list_all (rises_over first) es) (are_rising es) (rises_over first e) (may_follow es e)

-- the etag is greater than that of the object, where there is one
abbrev pub is_above_object : ℕ → Option Object → Bool
is_above_object etag None = true
is_above_object etag (Some x) = nat_lt x.etag etag

above_after : (own : Bool) (name : ObjName) (bytes : List ℕ) (etag : ℕ) (o : Option Object) (log : List Entry)
    → may_follow log (entry.Put own name bytes etag) ≡ true → is_above_object etag o ≡ true → is_above_object etag (object_after name o log) ≡ true
above_after own name bytes etag o [] follows above = above
above_after own name bytes etag o (entry.Put mine other old earlier ∷ es) follows above =
    pick (name_eq other name) follows (λ (x : Option Object) (g : may_follow es (entry.Put own name bytes etag) ≡ true) (h : is_above_object etag x ≡ true). above_after own name bytes etag x es g h)
  where
    pick : (b : Bool) → ((if b then nat_lt earlier etag else true) && may_follow es (entry.Put own name bytes etag)) ≡ true
        → ((x : Option Object) → may_follow es (entry.Put own name bytes etag) ≡ true → is_above_object etag x ≡ true → is_above_object etag (object_after name x es) ≡ true)
        → is_above_object etag (object_after name (if b then Some (record { bytes = old; etag = earlier }) else o) es) ≡ true
    pick true h more = more (Some (record { bytes = old; etag = earlier })) (second_so _ _ h) (first_so _ _ h)
    pick false h more = more o h above
above_after own name bytes etag o (entry.Deleted mine other at ∷ es) follows above =
    pick (name_eq other name) (λ (x : Option Object) (h : is_above_object etag x ≡ true). above_after own name bytes etag x es follows h)
  where
    pick : (b : Bool) → ((x : Option Object) → is_above_object etag x ≡ true → is_above_object etag (object_after name x es) ≡ true)
        → is_above_object etag (object_after name (if b then None else o) es) ≡ true
    pick true more = more None refl
    pick false more = more o above

-- a put that may follow a log has an etag above that of the object that is there
pub may_follow-above : (log : List Entry) (own : Bool) (name : ObjName) (bytes : List ℕ) (etag : ℕ) (x : Object)
    → may_follow log (entry.Put own name bytes etag) ≡ true → object_of name log ≡ Some x → x.etag < etag
may_follow-above log own name bytes etag x follows there =
    let above : nat_lt x.etag etag ≡ true = sym (ap (is_above_object etag) there) ∙ above_after own name bytes etag None log follows refl in
    ltb-true _ _ above
