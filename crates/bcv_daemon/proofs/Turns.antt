-- One message more that is answered.
use Rattle.std.proofs.Common.{◌≡◌, ℕ, suc, ◌+◌, ◌<◌, ◌^◌, false, List, [], ◌∷◌, ◌++◌, length, drop, refl, sym, ap, ◌∙◌, append-nil, take-append-drop, length-drop, arith}
use Rattle.std.proofs.lemmas.List.{length-take-le}
use Rattle.bcv_disk.specs.DiskShown.{DiskShown, DiskTold}
use Rattle.bcv_proto.specs.Answers.{answer_text}
use Rattle.bcv_proto.specs.Messages.{Begins, fields_text, message_text, session_of}
use Rattle.bcv_proto.specs.declared.answer.Answer.{Answer}
use Rattle.bcv_proto.specs.declared.message.Message.{Message}
use Rattle.bcv_store.specs.StoreShown.{StoreTold}
use Rattle.bcv_daemon.specs.Connections.{Serves}
use Rattle.bcv_daemon.specs.Responses.{Answered, fitted, is_no_memory}
use Rattle.bcv_client.specs.Talk.{Point}
use Rattle.bcv_daemon.specs.declared.connection.Connection.{Connection}

pub has_bytes : (m : Message) → 0 < length (message_text m)
has_bytes m =
    let e : length (message_text m) ≡ suc (suc (suc (suc (suc (suc (suc (suc (suc (length (fields_text m)))))))))) = refl in
    omega (arith, e)

pub counted : (m : Message) (n : ℕ) (bytes : List ℕ) → Begins bytes m n → n ≡ length (message_text m)
counted m n bytes begins = sym (length-take-le n bytes begins.1) ∙ ap length begins.2

pub is_shorter : (m : Message) (n : ℕ) (old new : List ℕ) → Begins old m n → new ≡ drop n old → length new < length old
is_shorter m n old new begins e = omega (arith, ap length e, length-drop n old, begins.1, counted m n old begins, has_bytes m)

pub parted : (m : Message) (n : ℕ) (old new : List ℕ) → Begins old m n → new ≡ drop n old → old ++ [] ≡ (message_text m ++ []) ++ new
parted m n old new begins e =
    append-nil old ∙ (sym (take-append-drop n old) ∙ (ap (λ (l : List ℕ). l ++ drop n old) (begins.2 ∙ sym (append-nil (message_text m)))
    ∙ ap (λ (l : List ℕ). (message_text m ++ []) ++ l) (sym e)))

module _ {D : Type 0} {g : _} (told : DiskTold) (shown : D → DiskShown) (store : StoreTold) where
  pub one_served : (a b : Point D g) (old new : Connection) (m : Message) (given : Answer) (n : ℕ) → Begins old.inbox m n → old.used < 2 ^ 63
      → is_no_memory given ≡ false → Answered told shown store a b old.sessions.items new.sessions.items m given
      → new.inbox ≡ drop n old.inbox → new.used ≡ old.used + n
      → new.pending.items ≡ old.pending.items ++ answer_text (session_of m) (fitted given)
      → Serves told shown store a b old new [] [] new.pending.items × (length new.inbox < length old.inbox)
  one_served a b old new m given n begins below is answered inbox used pending = (
    record {
      turns = record { message = m; given = given } ∷ [];
      answered = (b, new.sessions.items, (begins.0, is), answered, (refl, refl));
      taken = parted m n old.inbox new.inbox begins inbox;
      used = used ∙ ap (λ (k : ℕ). old.used + k) (counted m n old.inbox begins ∙ ap length (sym (append-nil (message_text m))));
      below = (below, tt);
      given = ap (λ (l : List ℕ). old.pending.items ++ l) (append-nil (answer_text (session_of m) (fitted given))) ∙ sym pending;
    },
    is_shorter m n old.inbox new.inbox begins inbox,
  )
