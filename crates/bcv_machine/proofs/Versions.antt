-- Versions only grow, each by one edit of the one before.
use Rattle.std.proofs.Common.{◌≡◌, ◌∙◌, ℕ, ◌+◌, Bool, true, false, List, [], ◌∷◌, ◌++◌, Option, Some, None, refl, sym, ap, subst, inl, inr, append_assoc, append-nil}
use Rattle.bcv_base.specs.Version.{Version}
use Rattle.bcv_model.specs.declared.ask.Ask.{Ask}
use Rattle.bcv_model.specs.declared.event.Act.{Act}
use Rattle.bcv_model.specs.declared.event.Event.{Event}
use Rattle.bcv_model.specs.declared.event.Event.TheVariants as event
use Rattle.bcv_model.specs.declared.reply.Reply.{Reply}
use Rattle.bcv_model.specs.declared.reply.Said.{Said}
use Rattle.bcv_machine.specs.ManifestPut.{with_intent}
use Rattle.bcv_machine.specs.Run.{Run}
use Rattle.bcv_machine.specs.Refusals.{ends_pending}
use Rattle.bcv_machine.specs.State.{State, Container, Side, Client, Up, Publication, client_at, version_count, last_version}
use Rattle.bcv_machine.specs.Step.{Choice, Next, NextOf, give_back}
use Rattle.bcv_machine.specs.VersionLaw.{Follows, GrowsBy}
use Rattle.bcv_machine.proofs.Moves as m
use Rattle.bcv_machine.proofs.Moves.{Move}
use Rattle.bcv_machine.proofs.Publishing as p
use Rattle.bcv_machine.proofs.Publishing.{PublicationMove, Voids, IsSameBut, intended_side, appended_side}
use Rattle.bcv_machine.proofs.ActMoves as w
use Rattle.bcv_machine.proofs.ActMoves.{ActMove}

abbrev versions_in : Side → List Version
versions_in s = s.container.versions

asked : (b : Bool) (s : Side) (u : Up) (a : Ask) (r : Reply) (t : Side) → Move b s u a r t → versions_in t ≡ versions_in s
asked b s u a r t (m.Stays h) = ap versions_in h
asked b s u a r t (m.Begun x free h) = ap versions_in h
asked b s u a r t (m.Held n x held is h) = ap versions_in h
asked b s u a r t (m.Ended n h) = ap versions_in h
asked b s u a r t (m.Tasked n job plain h) = ap versions_in h
asked b s u a r t (m.Started n kind id none h) = ap versions_in h
asked b s u a r t (m.Asked n none h) = ap versions_in h
asked b s u a r t (m.Failed x f) = ap (λ (c : Container). c.versions) f.0
asked b s u a r t (m.Committed db base w h) = ap versions_in h
asked b s u a r t (m.Reverted db d isa isr h) = ap versions_in h
asked b s u a r t (m.Polled known h) = ap versions_in h
asked b s u a r t (m.Resolved n known isb isr h) = ap versions_in h
asked b s u a r t (m.Voided isb h) = ap versions_in h

voided : (s : Side) (u : Up) (r : Reply) (t : Side) → Voids s u r t → versions_in t ≡ versions_in s
voided s u r t (inl h) = ap versions_in h
voided s u r t (inr f) = ap (λ (c : Container). c.versions) f.0

intended : (i : Bool) (s : Side) (u : Up) (q : Publication) → (with_intent i s u q).container ≡ s.container
intended true s u q = refl
intended false s u q = refl

appended : (s : Side) (u : Up) (q : Publication) (v : Version) → versions_in (appended_side s u q v) ≡ versions_in s ++ v ∷ []
appended s u q v = ap (λ (c : Container). c.versions ++ v ∷ []) (intended q.intended s u q)

none : (n : Option ℕ) (c d : Container) → n ≡ None → d.versions ≡ c.versions → GrowsBy n c d
none n c d is h = subst (λ (k : Option ℕ). GrowsBy k c d) (sym is) h

one : (n : Option ℕ) (c d : Container) (v : Version) → n ≡ Some (version_count c + 1) → Follows (last_version c) v → d.versions ≡ c.versions ++ v ∷ [] → GrowsBy n c d
one n c d v is f h = subst (λ (k : Option ℕ). GrowsBy k c d) (sym is) (refl, (v, f, h))

published : (s : Side) (u : Up) (q : Publication) (n : Option ℕ) (r : Reply) (t : Side) (rest : Option Publication) → PublicationMove s u q n r t rest → GrowsBy n s.container t.container
published s u q n r t rest (p.Goes x g but like h is back) = none n s.container t.container is (ap versions_in h ∙ but.versions)
published s u q n r t rest (p.EndsPlainly x but h is back) = none n s.container t.container is (ap versions_in h ∙ but.versions)
published s u q n r t rest (p.EndsVoided x but v is back) = none n s.container t.container is (voided x u r t v ∙ but.versions)
published s u q n r t rest (p.Unintended f is back) = none n s.container t.container is (ap (λ (c : Container). c.versions) f.0)
published s u q n r t rest (p.Again g like h is back) = none n s.container t.container is (ap versions_in h ∙ ap (λ (c : Container). c.versions) (intended q.intended s u q))
published s u q n r t rest (p.Refused v is back) = none n s.container t.container is (voided (intended_side s u q) u r t v ∙ ap (λ (c : Container). c.versions) (intended q.intended s u q))
published s u q n r t rest (p.Unknown h is back) = none n s.container t.container is (ap versions_in h ∙ ap (λ (c : Container). c.versions) (intended q.intended s u q))
published s u q n r t rest (p.Lost v f h is back) = one n s.container t.container v is f (ap versions_in h ∙ appended s u q v)
published s u q n r t rest (p.Made v f done h is back) = one n s.container t.container v is f (ap versions_in h ∙ appended s u q v)
published s u q n r t rest (p.Unfinished v k f fails is back) = one n s.container t.container v is f (ap (λ (c : Container). c.versions) fails.0 ∙ appended s u q v)

given_back : (n : ℕ) (back : Option Publication) (mid : Side) → (give_back n back mid).container ≡ mid.container
given_back n None mid = refl
given_back n (Some q) mid = refl

acted : (s : Side) (what : Act) (said : Said) (t : Side) → ActMove s what said t → GrowsBy said.published s.container t.container
acted s what said t (w.Left all is) = none said.published s.container t.container is (ap (λ (c : Container). c.versions) all.container)
acted s what said t (w.Asked u a o up isa move is) = none said.published s.container t.container is (asked false s u a said.reply t move)
acted s what said t (w.Stepped u rest a o number job up isa out move is) = none said.published s.container t.container is (asked (ends_pending job) s rest a said.reply t move)
acted s what said t (w.Published u rest a o number q mid back up isa out move h) =
    subst (λ (c : Container). GrowsBy said.published s.container c) (sym (ap (λ (x : Side). x.container) h ∙ given_back number back mid)) (published s rest q said.published said.reply mid back move)
acted s what said t (w.Crashed h is) = none said.published s.container t.container is (ap versions_in h)
acted s what said t (w.Rose k isa left h is) = none said.published s.container t.container is (ap versions_in h)

next_of : (a : State) (n : ℕ) (d : Option Client) (what : Act) (said : Said) (c : Choice) (b : State) → NextOf a n d what said c b → GrowsBy said.published a.container b.container
next_of a n None what said c b h = absurd h
next_of a n (Some d) what said c b h =
    let s : Side = record { container = a.container; client = d } in
    subst (λ (x : Container). GrowsBy said.published a.container x) (sym (ap (λ (x : State). x.container) h.1.2)) (acted s what said h.1.0 (w.acts s d.up what said c h.1.0 refl h.1.1))

pub versions_grow : (a b : State) (e : Event) (s : Said) (c : Choice) → Next a e s c b → GrowsBy s.published a.container b.container
versions_grow a b (event.Tick n) s c h = none s.published a.container b.container h.0.0 (ap (λ (x : State). x.container.versions) h.1)
versions_grow a b (event.Of n what) s c h = next_of a n (client_at a n) what s c b h

-- ---- over runs

added_by : (n : Option ℕ) (c d : Container) → GrowsBy n c d → (added : List Version) × (d.versions ≡ c.versions ++ added)
added_by None c d g = ([], g ∙ sym (append-nil c.versions))
added_by (Some n) c d g = (g.1.0 ∷ [], g.1.2)

pub versions_stay : (a b : State) (es : List Event) (ss : List Said) (cs : List Choice) → Run a es ss cs b → (added : List Version) × (b.container.versions ≡ a.container.versions ++ added)
versions_stay a b [] [] [] h = ([], ap (λ (x : State). x.container.versions) h ∙ sym (append-nil a.container.versions))
versions_stay a b [] [] (c ∷ cs) h = absurd h
versions_stay a b [] (s ∷ ss) cs h = absurd h
versions_stay a b (e ∷ es) [] cs h = absurd h
versions_stay a b (e ∷ es) (s ∷ ss) [] h = absurd h
versions_stay a b (e ∷ es) (s ∷ ss) (c ∷ cs) h =
    let first = added_by s.published a.container h.0.container (versions_grow a h.0 e s c h.1) in
    let later = versions_stay h.0 b es ss cs h.2 in
    (first.0 ++ later.0, later.1 ∙ ap (λ (vs : List Version). vs ++ later.0) first.1 ∙ append_assoc a.container.versions first.0 later.0)
