-- The index follows the log.
use Rattle.std.proofs.Common.{◌≡◌, ◌∙◌, ℕ, zero, suc, Bool, true, false, List, [], ◌∷◌, ◌++◌, length, Option, Some, None, if◌then◌else◌, refl, sym, ap, subst}
use Rattle.std.specs.Option.{is_some}
use Rattle.std.specs.List.{slice_get}
use Rattle.std.specs.BTreeMap.{BTreeMap, get, Updates}
use Rattle.std.proofs.lemmas.Map.Text.{is_eq-slice_cmp}
use Rattle.bcv_base.specs.declared.id.Id16.{Id16}
use Rattle.bcv_base.specs.declared.object.ObjName.{ObjName}
use Rattle.bcv_base.specs.declared.object.ObjName.TheVariants as object
use Rattle.bcv_base.specs.declared.log.Entry.{Entry}
use Rattle.bcv_base.specs.declared.log.Entry.TheVariants as entry
use Rattle.bcv_base.specs.Log.{Object, name_eq, object_of}
use Rattle.bcv_base.specs.LogLaws.{object_of-more}
use Rattle.bcv_memstore.specs.declared.places.Places.{Places}
use Rattle.bcv_memstore.specs.Index.{id_cmp, place_of, object_made, IsPlace, IsIndex}

-- a change of the map at an id is one of the places at the block's name
pub place_changed : (manifest : Option ℕ) (blocks later : BTreeMap Id16 ℕ) (id : Id16) (w : Option ℕ) → Updates id_cmp blocks later id w
    → (other : ObjName) → place_of (record { manifest = manifest; blocks = later }) other
    ≡ (if name_eq (object.Block id) other then w else place_of (record { manifest = manifest; blocks = blocks }) other)
place_changed manifest blocks later id w updates object.Manifest = refl
place_changed manifest blocks later id w updates (object.Block j) =
    updates.0 j ∙ ap (λ (b : Bool). if b then w else get id_cmp blocks j) (is_eq-slice_cmp id.0 j.0)

get-more : (log more : List Entry) (place : ℕ) (e : Entry) → slice_get log place ≡ Some e → slice_get (log ++ more) place ≡ Some e
get-more [] more place e h = absurd (cc)
get-more (first ∷ es) more zero e h = h
get-more (first ∷ es) more (suc place) e h = get-more es more place e h

get-last : (log : List Entry) (e : Entry) → slice_get (log ++ e ∷ []) (length log) ≡ Some e
get-last [] e = refl
get-last (first ∷ es) e = get-last es e

-- a place of an object stays its place in a longer log
place-stays : (log more : List Entry) (place : Option ℕ) (x : Option Object) → IsPlace log place x → IsPlace (log ++ more) place x
place-stays log more None x p = record { made = p.made; there = p.there }
place-stays log more (Some k) x p = record { made = found (slice_get log k) refl p.made; there = p.there }
  where
    found : (at : Option Entry) → at ≡ slice_get log k → object_made at ≡ x → object_made (slice_get (log ++ more) k) ≡ x
    found None is made = absurd (cc (ap is_some made, p.there))
    found (Some e) is made = ap object_made (get-more log more k e (sym is)) ∙ made

-- the index of a log with one more put
pub index_put : (places later : Places) (log : List Entry) (own : Bool) (name : ObjName) (bytes : List ℕ) (etag place : ℕ) → IsIndex places log → place ≡ length log
    → ((other : ObjName) → place_of later other ≡ (if name_eq name other then Some place else place_of places other))
    → IsIndex later (log ++ entry.Put own name bytes etag ∷ [])
index_put places later log own name bytes etag place index last changed = record {
  each = λ (other : ObjName).
      subst (λ (p : Option ℕ). IsPlace (log ++ entry.Put own name bytes etag ∷ []) p (object_of other (log ++ entry.Put own name bytes etag ∷ []))) (sym (changed other))
      (subst (λ (x : Option Object). IsPlace (log ++ entry.Put own name bytes etag ∷ []) (if name_eq name other then Some place else place_of places other) x)
      (sym (object_of-more other log (entry.Put own name bytes etag))) (pick other (name_eq name other)));
}
  where
    pick : (other : ObjName) (b : Bool) → IsPlace (log ++ entry.Put own name bytes etag ∷ []) (if b then Some place else place_of places other)
        (if b then Some (record { bytes = bytes; etag = etag }) else object_of other log)
    pick other true = record { made = ap (λ (k : ℕ). object_made (slice_get (log ++ entry.Put own name bytes etag ∷ []) k)) last ∙ ap object_made (get-last log (entry.Put own name bytes etag)); there = refl }
    pick other false = place-stays log (entry.Put own name bytes etag ∷ []) (place_of places other) (object_of other log) (index.each other)

-- the index of a log with one more deletion
pub index_deletion : (places later : Places) (log : List Entry) (own : Bool) (name : ObjName) (at : ℕ) → IsIndex places log
    → ((other : ObjName) → place_of later other ≡ (if name_eq name other then None else place_of places other))
    → IsIndex later (log ++ entry.Deleted own name at ∷ [])
index_deletion places later log own name at index changed = record {
  each = λ (other : ObjName).
      subst (λ (p : Option ℕ). IsPlace (log ++ entry.Deleted own name at ∷ []) p (object_of other (log ++ entry.Deleted own name at ∷ []))) (sym (changed other))
      (subst (λ (x : Option Object). IsPlace (log ++ entry.Deleted own name at ∷ []) (if name_eq name other then None else place_of places other) x)
      (sym (object_of-more other log (entry.Deleted own name at))) (pick other (name_eq name other)));
}
  where
    pick : (other : ObjName) (b : Bool) → IsPlace (log ++ entry.Deleted own name at ∷ []) (if b then None else place_of places other) (if b then None else object_of other log)
    pick other true = record { made = refl; there = refl }
    pick other false = place-stays log (entry.Deleted own name at ∷ []) (place_of places other) (object_of other log) (index.each other)
