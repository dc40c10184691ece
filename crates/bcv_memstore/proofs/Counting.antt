-- The number of the manifests in a log, as the log grows.
use Rattle.std.proofs.Common.{◌≡◌, ◌∙◌, ℕ, ◌+◌, Bool, true, false, cond, List, [], ◌∷◌, ◌++◌, refl, sym, ap, arith}
use Rattle.std.specs.Int.{from_bool}
use Rattle.bcv_base.specs.declared.object.ObjName.{ObjName}
use Rattle.bcv_base.specs.declared.object.ObjName.TheVariants as object
use Rattle.bcv_base.specs.declared.log.Entry.{Entry}
use Rattle.bcv_base.specs.declared.log.Entry.TheVariants as entry
use Rattle.bcv_base.specs.Log.{name_eq, put_count}
use Rattle.bcv_base.specs.LogLaws.{put_count-append}

-- a test as a number, as a count adds it
one : (b : Bool) → from_bool b ≡ 0 + cond b 1 0
one true = refl
one false = refl

-- one more put counts where its name is the manifest's
pub counted_put : (log : List Entry) (own : Bool) (name : ObjName) (bytes : List ℕ) (etag count : ℕ) → count ≡ put_count object.Manifest log
    → count + from_bool (name_eq name object.Manifest) ≡ put_count object.Manifest (log ++ entry.Put own name bytes etag ∷ [])
counted_put log own name bytes etag count is =
    ap (λ (n : ℕ). n + from_bool (name_eq name object.Manifest)) is
    ∙ ap (λ (n : ℕ). put_count object.Manifest log + n) (one (name_eq name object.Manifest))
    ∙ sym (put_count-append object.Manifest log (entry.Put own name bytes etag ∷ []))

-- a deletion does not count
pub counted_deletion : (log : List Entry) (own : Bool) (name : ObjName) (at count : ℕ) → count ≡ put_count object.Manifest log
    → count ≡ put_count object.Manifest (log ++ entry.Deleted own name at ∷ [])
counted_deletion log own name at count is = omega (arith, is, put_count-append object.Manifest log (entry.Deleted own name at ∷ []))
