-- Texts that name no object.
use Rattle.std.proofs.Common.{◌≡◌, ℕ, Bool, false, List, ◌++◌, codes, sym, ◌∙◌}
use Rattle.std.specs.Str.{bytes_eq}
use Rattle.std.proofs.lemmas.Bool.Decides.{Decides-eqb}
use Rattle.std.proofs.lemmas.Slice.Eq.{slice_eq-Decides}
use Rattle.std.proofs.lemmas.List.{append_cancel_right}
use Rattle.bcv_base.specs.Ids.{IsId}
use Rattle.bcv_base.specs.Names.{hex_of}
use Rattle.bcv_base.specs.Objects.{IsObject, object_text}
use Rattle.bcv_base.specs.declared.id.Id16.{Id16}
use Rattle.bcv_base.specs.declared.object.ObjName.{ObjName}
use Rattle.bcv_base.specs.declared.object.ObjName.TheVariants.{Manifest, Block}

-- a text without the ending names none
pub no_ending : (text : List ℕ) → ((stem : List ℕ) → text ≡ stem ++ codes ".bcv" → ⊥)
    → (object : ObjName) → IsObject object → text ≡ object_text object → ⊥
no_ending text none Manifest is same = none (codes "manifest") same
no_ending text none (Block id) is same = none (hex_of id.0) same

-- nor does one whose stem is neither the manifest's nor an id
pub no_stem : (text stem : List ℕ) → text ≡ stem ++ codes ".bcv" → (stem ≡ codes "manifest" → ⊥)
    → ((id : Id16) → IsId id → stem ≡ hex_of id.0 → ⊥) → (object : ObjName) → IsObject object → text ≡ object_text object → ⊥
no_stem text stem ended other none Manifest is same = other (append_cancel_right stem (codes "manifest") (codes ".bcv") (sym ended ∙ same))
no_stem text stem ended other none (Block id) is same = none id is (append_cancel_right stem (hex_of id.0) (codes ".bcv") (sym ended ∙ same))

-- a test that answered no
pub not_same : (xs ys : List ℕ) (r : Bool) → r ≡ bytes_eq xs ys → r ≡ false → xs ≡ ys → ⊥
not_same xs ys r test differ same = let yes = (slice_eq-Decides Decides-eqb xs ys r test).1 same in cc
