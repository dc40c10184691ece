-- A client that has read a manifest fits the log that has it.
use Rattle.std.proofs.Common.{◌≡◌, ◌∙◌, ◌≤◌, ℕ, false, not, List, [], ◌∷◌, length, Option, Some, None, IfSome, inl, inr, refl, sym, ap, subst, arith}
use Rattle.std.proofs.lemmas.Bool.{eq-eqb}
use Rattle.std.proofs.lemmas.Option.{same_Some}
use Rattle.bcv_base.specs.declared.manifest.Manifest.{Manifest}
use Rattle.bcv_base.specs.declared.seen.Seen.{Seen}
use Rattle.bcv_base.specs.History.{Item, BlockPut, Published, Unreadable, BlockDeleted, ManifestDeleted, Always, count_of, history_of, last_of}
use Rattle.bcv_base.specs.HistoryLaws.{last_is, no_version, version-count}
use Rattle.bcv_base.specs.ManifestRules.{MeetsRules}
use Rattle.bcv_base.specs.Version.{Version}
use Rattle.bcv_base.specs.Versions.{Reads}
use Rattle.bcv_dbmap.specs.Outlived.{IsPublished}
use Rattle.bcv_dbmap.specs.Sound.{Sound}
use Rattle.bcv_dbmap.proofs.KeptLaws.{kept_published}
use Rattle.bcv_dbmap.proofs.ManifestLaws.{published_is_up_to}
use Rattle.bcv_poller.specs.ManifestPoll.{IsSeenIn}
use Rattle.bcv_publish.specs.ManifestRead.{is_other}
use Rattle.bcv_clientstate.specs.Fits.{FitsSeen}
use Rattle.bcv_clientstate.proofs.Bases.{last_there}
use Rattle.bcv_clientstate.proofs.KnownLaws.{known_fits}
use Rattle.bcv_clientlaws.specs.ManifestsRead.{ReadFits, ReadIsSeen, SeenIsSeenIn}

-- ---- published manifests

-- a published manifest keeps the rules
pub rules_of : (past : List Item) (m : Manifest) → Always Reads past → IsPublished m past → MeetsRules m
rules_of [] m reads there = absurd there
rules_of (x ∷ past) m reads (inl is) = (subst (λ (y : Item). Reads past y) is reads.1).rules
rules_of (x ∷ past) m reads (inr there) = rules_of past m reads.0 there

-- it is numbered by the manifests up to it
pub number_within : (past : List Item) (m : Manifest) → Sound past → IsPublished m past → m.number ≤ count_of past
number_within past m sound there =
    let last = last_there past m there in
    let within : m.number ≤ last.0.number = (published_is_up_to past m last.0 sound last.1 there).number in
    let counted : last.0.number ≡ count_of past = (last_is past last.0 sound.reads last.1).number in omega (arith, within, counted)

pub last_published : (past : List Item) (m : Manifest) → last_of past ≡ Some m → IsPublished m past
last_published [] m last = absurd (cc (last))
last_published (BlockPut i bytes ∷ past) m last = inr (last_published past m last)
last_published (Published k ∷ past) m last = inl (ap Published (same_Some k m last))
last_published (Unreadable ∷ past) m last = inr (last_published past m last)
last_published (BlockDeleted i at ∷ past) m last = inr (last_published past m last)
last_published (ManifestDeleted ∷ past) m last = inr (last_published past m last)

-- ---- what was read

pub read_is_seen : ReadIsSeen
read_is_seen log l sound kept =
    let there : IsPublished l.manifest (history_of log) = kept_published log l kept in
    record { block = (l.manifest, there, refl); number = number_within (history_of log) l.manifest sound there }

pub read_fits : ReadFits
read_fits log p entries l seen sound fits kept is_seen =
    let known = known_fits (history_of log) p.kept l.manifest sound (kept_published log l kept) in
    record {
      named = fits.named;
      is_id = fits.is_id;
      ordered = fits.ordered;
      locals = fits.locals;
      known_order = known.order;
      known_apart = known.apart;
      known = known.fits;
      pending = fits.pending;
      latest = kept;
      seen = is_seen;
      txns = fits.txns;
      tasks = fits.tasks;
      staged = fits.staged;
      cached = fits.cached;
    }

-- ---- what was seen

-- without a manifest nothing was seen
nothing_seen : (past : List Item) (block : Option ℕ) (number : ℕ) → Sound past → last_of past ≡ None
    → IfSome block (λ b. (m : Manifest) × IsPublished m past × (m.block ≡ b)) → number ≤ count_of past → IsSeenIn past (record { block = block; number = number })
nothing_seen past (Some b) number sound none there within =
    absurd (let last = last_there past there.0 there.1 in let both : Some last.0 ≡ None = sym last.1 ∙ none in cc)
nothing_seen past None number sound none there within =
    let counted : count_of past ≡ 0 = sym (version-count past sound.reads) ∙ ap (λ (vs : List Version). length vs) (no_version past sound.reads none) in
    let zero_is : number ≡ 0 = omega (arith, within, counted) in
    inl (ap (λ (n : ℕ). let s : Seen = record { block = None; number = n } in s) zero_is)

-- the last manifest is as large as any, and of the block size that was seen
seen_by_last : (past : List Item) (block : Option ℕ) (number : ℕ) (l : Manifest) → Sound past → last_of past ≡ Some l
    → IfSome block (λ b. (m : Manifest) × IsPublished m past × (m.block ≡ b)) → number ≤ count_of past → IsSeenIn past (record { block = block; number = number })
seen_by_last past block number l sound last there within =
    let counted : l.number ≡ count_of past = (last_is past l sound.reads last).number in
    inr (l, last_published past l last, omega (arith, within, counted), same_block block there)
  where
    same_block : (o : Option ℕ) → IfSome o (λ b. (m : Manifest) × IsPublished m past × (m.block ≡ b)) → is_other o l.block ≡ false
    same_block None is = refl
    same_block (Some b) is =
        let one : b ≡ l.block = sym is.2 ∙ (published_is_up_to past is.0 l sound last is.1).block in ap not (eq-eqb b l.block one)

seen_by : (past : List Item) (seen : Seen) (o : Option Manifest) → last_of past ≡ o → Sound past → FitsSeen past seen → IsSeenIn past seen
seen_by past seen None last sound fits = nothing_seen past seen.block seen.number sound last fits.block fits.number
seen_by past seen (Some l) last sound fits = seen_by_last past seen.block seen.number l sound last fits.block fits.number

pub seen_is_seen_in : SeenIsSeenIn
seen_is_seen_in past seen sound fits = seen_by past seen (last_of past) refl sound fits
