-- What a resolve says, from what a read says and what was looked up.
use Rattle.std.proofs.Common.{◌≡◌, ◌∙◌, ℕ, Bool, true, false, inl, inr, List, Option, Some, None, Result, Ok, Err, refl, sym, ap, subst, if◌then◌else◌}
use Rattle.bcv_base.specs.declared.id.Id16.{Id16}
use Rattle.bcv_base.specs.declared.log.Entry.{Entry}
use Rattle.bcv_base.specs.declared.manifest.Writer.{Writer}
use Rattle.bcv_base.specs.declared.object.ObjName.TheVariants as object
use Rattle.bcv_base.specs.declared.outcome.Outcome.{Outcome}
use Rattle.bcv_base.specs.declared.outcome.Outcome.TheVariants as outcome
use Rattle.bcv_base.specs.declared.seen.Latest.{Latest}
use Rattle.bcv_base.specs.declared.seen.Seen.{Seen}
use Rattle.bcv_base.specs.History.{Item, history_of}
use Rattle.bcv_base.specs.HistoryLaws.{id_eq-is, id_eq-self}
use Rattle.bcv_base.specs.Ids.{id_eq}
use Rattle.bcv_base.specs.Log.{Object, object_of}
use Rattle.bcv_dbmap.specs.Past.{Publication, last_own, told_by, writer_of}
use Rattle.bcv_dbmap.specs.Sound.{Sound}
use Rattle.bcv_dbmap.proofs.ManifestLaws.{line_is_last_own, none_is_last_own}
use Rattle.bcv_store.specs.StoreShown.{StoreTold, StoreShown}
use Rattle.bcv_publish.specs.declared.resolved.Resolved.{Resolved}
use Rattle.bcv_publish.specs.declared.resolved.Resolved.TheVariants as resolved
use Rattle.bcv_publish.specs.declared.unread.Unread.{Unread}
use Rattle.bcv_publish.specs.declared.unread.Unread.TheVariants as unread
use Rattle.bcv_publish.specs.ManifestRead.{ReadEnds, ManifestReads}
use Rattle.bcv_publish.specs.Resolve.{IsNotLast, ResolveEnds, Resolves, SoundResolveEnds, line_number, number_in, resolved_by, unread_resolved}
use Rattle.bcv_publish.specs.State.{new_publish}
use Rattle.bcv_publish.proofs.ReadLaws.{SoundReadEnds, read_sound}

-- what a resolve answers
abbrev pub resolves_to : Id16 → Id16 → Result Latest Unread → Resolved
resolves_to writer id (Ok l) = resolved_by (number_in writer id l.manifest)
resolves_to writer id (Err u) = unread_resolved u

-- ---- over any log

number_ends : (o : Outcome) (x : Option Object) (seen : Seen) (writer id : Id16) (l : Latest) (n : Option ℕ) → number_in writer id l.manifest ≡ n → ReadEnds o x seen (new_publish writer id) (Ok l) → ResolveEnds o x seen writer id (resolved_by n)
number_ends o x seen writer id l None is ends = (ends.1, inr (ends.0, l.manifest, ends.2, ends.3, is))
number_ends o x seen writer id l (Some n) is ends = (ends.0, l.manifest, ends.1, ends.2, ends.3, is)

resolve_ends : (o : Outcome) (x : Option Object) (seen : Seen) (writer id : Id16) (r : Result Latest Unread) → ReadEnds o x seen (new_publish writer id) r → ResolveEnds o x seen writer id (resolves_to writer id r)
resolve_ends o x seen writer id (Ok l) ends = number_ends o x seen writer id l (number_in writer id l.manifest) refl ends
resolve_ends o x seen writer id (Err unread.Missing) ends = (ends.0, inl ends.1)
resolve_ends o x seen writer id (Err (unread.Bad at)) ends = ends
resolve_ends o x seen writer id (Err unread.Failed) ends = ends
resolve_ends o x seen writer id (Err unread.NoMemory) ends = tt

-- ---- over a sound log

by_test : (o : Outcome) (past : List Item) (seen : Seen) (writer id : Id16) (w : Writer) (b : Bool) → id_eq w.last id ≡ b → o ≡ outcome.Ok → last_own past writer ≡ told_by (Some w)
    → SoundResolveEnds o past seen writer id (resolved_by (if b then Some w.number else None))
by_test o past seen writer id w true is ok last = (ok, last ∙ ap (λ (i : Id16). Some (record { id = i; number = w.number })) (id_eq-is w.last id is))
by_test o past seen writer id w false is ok last = (ok, subst (IsNotLast id) (sym last) (λ same. absurd (let both : true ≡ false = sym (ap (λ (i : Id16). id_eq i id) same ∙ id_eq-self id) ∙ is in cc)))

by_line : (o : Outcome) (past : List Item) (seen : Seen) (writer id : Id16) (line : Option Writer) → o ≡ outcome.Ok → last_own past writer ≡ told_by line → SoundResolveEnds o past seen writer id (resolved_by (line_number id line))
by_line o past seen writer id None ok last = (ok, subst (IsNotLast id) (sym last) tt)
by_line o past seen writer id (Some w) ok last = by_test o past seen writer id w (id_eq w.last id) refl ok last

sound_ends : (o : Outcome) (log : List Entry) (seen : Seen) (writer id : Id16) (r : Result Latest Unread) → Sound (history_of log) → SoundReadEnds o log seen (new_publish writer id) r
    → SoundResolveEnds o (history_of log) seen writer id (resolves_to writer id r)
sound_ends o log seen writer id (Ok l) s ends =
    by_line o (history_of log) seen writer id (writer_of writer l.manifest.writers) ends.0 (line_is_last_own (history_of log) l.manifest writer s ends.1)
sound_ends o log seen writer id (Err unread.Missing) s ends = (ends.0, subst (IsNotLast id) (sym (none_is_last_own (history_of log) writer ends.1)) tt)
sound_ends o log seen writer id (Err (unread.Bad at)) s ends = ends
sound_ends o log seen writer id (Err unread.Failed) s ends = ends
sound_ends o log seen writer id (Err unread.NoMemory) s ends = tt

-- ---- the whole

by_number : (n : Option ℕ) → resolved_by n ≡ resolved.StoreFault → ⊥
by_number None is = cc
by_number (Some n) is = cc

fault_of : (writer id : Id16) (r : Result Latest Unread) → resolves_to writer id r ≡ resolved.StoreFault → r ≡ Err unread.Failed
fault_of writer id (Ok l) is = absurd (by_number (number_in writer id l.manifest) is)
fault_of writer id (Err unread.Missing) is = absurd (cc)
fault_of writer id (Err (unread.Bad at)) is = absurd (cc)
fault_of writer id (Err unread.Failed) is = refl
fault_of writer id (Err unread.NoMemory) is = absurd (cc)

-- the answer to what was read
pub read_resolves : (store : StoreTold) (old new : StoreShown) (seen : Seen) (writer id : Id16) (r : Result Latest Unread) (result : Resolved) → ManifestReads store old new seen (new_publish writer id) r → result ≡ resolves_to writer id r
    → Resolves store old new seen writer id result
read_resolves store old new seen writer id r result reads is = subst (Resolves store old new seen writer id) (sym is) (record {
  told = λ tells. let t = reads.told tells in
      record {
        others = t.others;
        by_others = t.by_others;
        grown = t.grown;
        outcome = t.outcome;
        next = t.next;
        ends = resolve_ends t.outcome (object_of object.Manifest new.log) seen writer id r t.ends;
      };
  sound = λ tells mine sound honest. let s = read_sound store mine old new seen (new_publish writer id) r (reads.told tells) sound honest in
      record {
        growth = s.growth;
        no_own = s.no_own;
        outcome = s.outcome;
        next = s.next;
        ends = sound_ends s.outcome new.log seen writer id r s.growth.sound s.ends;
      };
  taken = reads.taken;
  later = reads.later;
  failed = λ e. reads.failed (fault_of writer id r e);
})
