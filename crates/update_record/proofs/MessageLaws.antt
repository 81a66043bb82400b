-- A message: what is spelled is read, what is read is spelled, and what is settled stays so.
use Rattle.std.proofs.Common.{◌≡◌, ℕ, ◌+◌, ◌≤◌, Bool, true, false, ◌==◌, if◌then◌else◌, List, [], ◌++◌, length, take, drop, Option, Some, None, refl, sym, ap, subst, ◌∙◌, arith, append_assoc, length-append, inl, inr}
use Rattle.std.specs.Prelude.{nat_lt}
use Rattle.std.proofs.lemmas.Bool.{cases_lt, lt-ltb, le-ltb, eqb-true, eq-eqb}
use Rattle.std.proofs.lemmas.List.{append-nil, nil_from_length, take_at, take-append-drop, length-take-le}
use Rattle.byte_grammar.specs.declared.verdict.Reason.TheVariants.{BadLength}
use Rattle.byte_grammar.specs.declared.verdict.Refusal.{Refusal}
use Rattle.byte_grammar.specs.declared.verdict.Verdict.{Verdict}
use Rattle.byte_grammar.specs.declared.verdict.Verdict.TheVariants.{More, Done, Refused}
use Rattle.byte_grammar.specs.Grammar.{judge, IsSettled}
use Rattle.byte_grammar.specs.Numbers.{IsBytes}
use Rattle.byte_grammar.proofs.Again.{part_again}
use Rattle.byte_grammar.proofs.Judging.{settled_more}
use Rattle.out_update.specs.Spelling.{request_text}
use Rattle.update_record.specs.declared.head.Head.{Head}
use Rattle.update_record.specs.declared.message.Message.{Message}
use Rattle.update_record.specs.declared.message.MessageKind.{MessageKind}
use Rattle.update_record.specs.declared.message.MessageKind.TheVariants as kind
use Rattle.update_record.specs.Spelling.{record_text}
use Rattle.update_record.specs.Reading.{whole_record}
use Rattle.update_record.specs.Decoding.{refused}
use Rattle.update_record.specs.Messages.{has_body, or_zero, facts_text, message_text, FitsBody, FitsMessage}
use Rattle.update_record.specs.MessageReading.{measured, judge_body, judge_behind, judge_message, whole_head, whole_question, whole_facts}
use Rattle.update_record.specs.MessageValues.{head_at, message_at, message_value}
use Rattle.update_record.proofs.Records.{record_again, record_takes}
use Rattle.update_record.proofs.Questions.{question_again, question_takes}
use Rattle.update_record.proofs.FactsTexts.{facts_again, facts_takes}
use Rattle.update_record.proofs.Heads.{FitsHead, head_text, length-head, head_again, head_takes, head_back}

-- ---- a measured body

exact : (size : ℕ) (v : Verdict) → v ≡ Done size → measured size v ≡ Done (56 + size)
exact size v e = ap (measured size) e ∙ ap (λ (b : Bool). if b then Done (56 + size) else refused 48 BadLength) (eq-eqb size size refl)

place_of : {p k : ℕ} → Done p ≡ Done k → p ≡ k
place_of e = cc

of_size : (b : Bool) (k e : ℕ) → (if b then Done (56 + k) else refused 48 BadLength) ≡ Done e → (b ≡ true) × (56 + k ≡ e)
of_size true k e d = (refl, place_of d)
of_size false k e d = absurd cc

measured_done : (size : ℕ) (v : Verdict) (e : ℕ) → measured size v ≡ Done e → (v ≡ Done size) × (e ≡ 56 + size)
measured_done size More e d = absurd cc
measured_done size (Done k) e d =
    let t = of_size (k == size) k e d in
    let is = eqb-true k size t.0 in
    (ap (λ (q : ℕ). Done q) is, sym t.1 ∙ ap (λ (q : ℕ). 56 + q) is)
measured_done size (Refused r) e d = absurd cc

measured_settled : (size : ℕ) (v : Verdict) → IsSettled (measured size v) → IsSettled v
measured_settled size More s = s
measured_settled size (Done k) s = tt
measured_settled size (Refused r) s = tt

-- ---- a body

body_again : (k : MessageKind) (body rest : List ℕ) → FitsBody k body → judge_body k (length body) (body ++ rest) ≡ Done (56 + length body)
body_again kind.Request body rest h = rw (le-ltb (length (body ++ rest)) (length body) (omega (arith, length-append body rest))) refl
body_again kind.Hold body rest h =
    exact (length body) (judge 24576 whole_question 0 (body ++ rest)) (ap (λ (t : List ℕ). judge 24576 whole_question 0 (t ++ rest)) h.1.1 ∙ question_again h.0 rest h.1.0 ∙ ap (λ (t : List ℕ). Done (length t)) (sym h.1.1))
body_again kind.Held body rest h =
    exact (length body) (judge 24600 whole_facts 0 (body ++ rest)) (ap (λ (t : List ℕ). judge 24600 whole_facts 0 (t ++ rest)) h.1.1 ∙ facts_again h.0 rest h.1.0 ∙ ap (λ (t : List ℕ). Done (length t)) (sym h.1.1))
body_again kind.Execute body rest h =
    exact (length body) (judge 24576 whole_record 0 (body ++ rest)) (ap (λ (t : List ℕ). judge 24576 whole_record 0 (t ++ rest)) h.1.1 ∙ record_again h.0 rest h.1.0 ∙ ap (λ (t : List ℕ). Done (length t)) (sym h.1.1))
body_again _ body rest h = ap (λ (t : List ℕ). Done (56 + length t)) (sym h)

size_of : (k : MessageKind) (body : List ℕ) → FitsBody k body → or_zero (has_body k) (length body) ≡ true
size_of kind.Request body h = refl
size_of kind.Hold body h = refl
size_of kind.Held body h = refl
size_of kind.Execute body h = refl
size_of _ body h = ap (λ (t : List ℕ). or_zero false (length t)) h

record TakesBody (k : MessageKind) (size : ℕ) (tail : List ℕ) (e : ℕ) : Type 0 where
  body : List ℕ
  rest : List ℕ
  fits : FitsBody k body
  len : length body ≡ size
  parts : tail ≡ body ++ rest
  end : e ≡ 56 + size

text_there : (n size : ℕ) (e : ℕ) → (if nat_lt n size then More else Done (56 + size)) ≡ Done e → (size ≤ n) × (e ≡ 56 + size)
text_there n size e d =
    elim (cases_lt n size) as (λ _. (size ≤ n) × (e ≡ 56 + size)) [
      | inl lt ↦ absurd (let x : More ≡ Done e = sym (ap (λ (b : Bool). if b then More else Done (56 + size)) (lt-ltb n size lt)) ∙ d in cc)
      | inr le ↦ (le, sym (place_of (sym (ap (λ (b : Bool). if b then More else Done (56 + size)) (le-ltb n size le)) ∙ d)))
    ]

no_body : (size e : ℕ) → or_zero false size ≡ true → Done 56 ≡ Done e → (0 ≡ size) × (e ≡ 56 + size)
no_body size e s d =
    let z : size ≡ 0 = eqb-true size 0 s in
    let p : 56 ≡ e = place_of d in
    (sym z, omega arith)

body_takes : (k : MessageKind) (size : ℕ) (tail : List ℕ) (e : ℕ) → IsBytes tail → or_zero (has_body k) size ≡ true → judge_body k size tail ≡ Done e → TakesBody k size tail e
body_takes kind.Request size tail e b s d =
    let t = text_there (length tail) size e d in
    record { body = take size tail; rest = drop size tail; fits = tt; len = length-take-le size tail t.0; parts = sym (take-append-drop size tail); end = t.1 }
body_takes kind.Hold size tail e b s d =
    let m = measured_done size (judge 24576 whole_question 0 tail) e d in
    let t = question_takes tail size b m.0 in
    record { body = request_text t.0; rest = t.2; fits = (t.0, (t.1, refl)); len = sym t.4; parts = t.3; end = m.1 }
body_takes kind.Held size tail e b s d =
    let m = measured_done size (judge 24600 whole_facts 0 tail) e d in
    let t = facts_takes tail size b m.0 in
    record { body = facts_text t.0; rest = t.2; fits = (t.0, (t.1, refl)); len = sym t.4; parts = t.3; end = m.1 }
body_takes kind.Execute size tail e b s d =
    let m = measured_done size (judge 24576 whole_record 0 tail) e d in
    let t = record_takes tail size b m.0 in
    record { body = record_text t.0; rest = t.2; fits = (t.0, (t.1, refl)); len = sym t.4; parts = t.3; end = m.1 }
body_takes _ size tail e b s d =
    let t = no_body size e s d in
    record { body = []; rest = tail; fits = refl; len = t.0; parts = refl; end = t.1 }

text_settled : (size : ℕ) (tail rest : List ℕ) → IsSettled (if nat_lt (length tail) size then More else Done (56 + size)) → (if nat_lt (length (tail ++ rest)) size then More else Done (56 + size)) ≡ (if nat_lt (length tail) size then More else Done (56 + size))
text_settled size tail rest s =
    elim (cases_lt (length tail) size) as (λ _. (if nat_lt (length (tail ++ rest)) size then More else Done (56 + size)) ≡ (if nat_lt (length tail) size then More else Done (56 + size))) [
      | inl lt ↦ absurd (subst (λ (b : Bool). IsSettled (if b then More else Done (56 + size))) (lt-ltb (length tail) size lt) s)
      | inr le ↦ ap (λ (b : Bool). if b then More else Done (56 + size)) (le-ltb (length (tail ++ rest)) size (omega (arith, length-append tail rest)) ∙ sym (le-ltb (length tail) size le))
    ]

body_settled : (k : MessageKind) (size : ℕ) (tail rest : List ℕ) → IsSettled (judge_body k size tail) → judge_body k size (tail ++ rest) ≡ judge_body k size tail
body_settled kind.Request size tail rest s = text_settled size tail rest s
body_settled kind.Hold size tail rest s = ap (measured size) (settled_more 24576 whole_question 0 tail rest (measured_settled size (judge 24576 whole_question 0 tail) s))
body_settled kind.Held size tail rest s = ap (measured size) (settled_more 24600 whole_facts 0 tail rest (measured_settled size (judge 24600 whole_facts 0 tail) s))
body_settled kind.Execute size tail rest s = ap (measured size) (settled_more 24576 whole_record 0 tail rest (measured_settled size (judge 24576 whole_record 0 tail) s))
body_settled _ size tail rest s = refl

-- ---- head and body

-- behind a head the body is judged
opened : (h : Head) (tail : List ℕ) → FitsHead h → judge_message (head_text h ++ tail) ≡ judge_body h.kind h.size tail
opened h tail f =
    let xs = head_text h ++ tail in
    ap (λ (v : Verdict). judge_behind v (head_at xs)) (head_again h tail f) ∙ ap (λ (o : Option (Head × List ℕ)). judge_behind (Done (length (head_text h))) o) (head_back h tail f)

abbrev head_of : Message → Head
head_of m = record { kind = m.kind; epoch = m.epoch; from = m.from; to = m.to; number = m.number; attempt = m.attempt; ask = m.ask; value = m.value; size = length m.body }

in_parts : (m : Message) → message_text m ≡ head_text (head_of m) ++ m.body
in_parts m = simp append_assoc

head_fits : (m : Message) → FitsMessage m → FitsHead (head_of m)
head_fits m h = record {
  epoch = h.epoch;
  epoch_fits = h.epoch_fits;
  sender = h.sender;
  receiver = h.receiver;
  number = h.number;
  number_fits = h.number_fits;
  attempt = h.attempt;
  attempt_fits = h.attempt_fits;
  ask = h.ask;
  ask_fits = h.ask_fits;
  value = h.value;
  value_fits = h.value_fits;
  size = h.size;
  size_fits = size_of m.kind m.body h.body;
}

length-message : (m : Message) → length (message_text m) ≡ 56 + length m.body
length-message m = ap length (in_parts m) ∙ length-append (head_text (head_of m)) m.body ∙ ap (λ (n : ℕ). n + length m.body) (length-head (head_of m))

pub message_again : (m : Message) (rest : List ℕ) → FitsMessage m → judge_message (message_text m ++ rest) ≡ Done (length (message_text m))
message_again m rest h =
    let e : message_text m ++ rest ≡ head_text (head_of m) ++ (m.body ++ rest) = ap (λ (t : List ℕ). t ++ rest) (in_parts m) ∙ append_assoc (head_text (head_of m)) m.body rest in
    ap judge_message e ∙ opened (head_of m) (m.body ++ rest) (head_fits m h) ∙ body_again m.kind m.body rest h.body ∙ ap (λ (n : ℕ). Done n) (sym (length-message m))

head_done : (v : Verdict) (o : Option (Head × List ℕ)) (e : ℕ) → judge_behind v o ≡ Done e → (k : ℕ) × (v ≡ Done k)
head_done More o e d = absurd cc
head_done (Done k) o e d = (k, refl)
head_done (Refused r) o e d = absurd cc

-- a head whose body has so many bytes
abbrev sized : Head → ℕ → Head
sized h n = record { kind = h.kind; epoch = h.epoch; from = h.from; to = h.to; number = h.number; attempt = h.attempt; ask = h.ask; value = h.value; size = n }

pub message_takes : (xs : List ℕ) (e : ℕ) → IsBytes xs → judge_message xs ≡ Done e → (m : Message) × FitsMessage m × (rest : List ℕ) × (xs ≡ message_text m ++ rest) × (e ≡ length (message_text m))
message_takes xs e b d =
    let done = head_done (judge 56 whole_head 0 xs) (head_at xs) e d in
    let t = head_takes xs done.0 b done.1 in
    let h = t.0 in
    let f = t.1 in
    let on = sym (opened h t.2.rest f) ∙ ap judge_message (sym t.2.parts) ∙ d in
    let x = body_takes h.kind h.size t.2.rest e t.2.fits f.size_fits on in
    let m : Message = record { kind = h.kind; epoch = h.epoch; from = h.from; to = h.to; number = h.number; attempt = h.attempt; ask = h.ask; value = h.value; body = x.body } in
    let same : head_text (sized h h.size) ≡ head_text (sized h (length x.body)) = ap (λ (n : ℕ). head_text (sized h n)) (sym x.len) in
    let all : xs ≡ message_text m ++ x.rest =
    t.2.parts ∙ ap (λ (r : List ℕ). head_text h ++ r) x.parts ∙ sym (append_assoc (head_text h) x.body x.rest) ∙ ap (λ (r : List ℕ). (r ++ x.body) ++ x.rest) same ∙ ap (λ (r : List ℕ). r ++ x.rest) (sym (in_parts m)) in
    let len = length-message m in
    let size = f.size in
    let end = x.end in
    let body_len = x.len in (
      m,
      record {
        epoch = f.epoch;
        epoch_fits = f.epoch_fits;
        sender = f.sender;
        receiver = f.receiver;
        number = f.number;
        number_fits = f.number_fits;
        attempt = f.attempt;
        attempt_fits = f.attempt_fits;
        ask = f.ask;
        ask_fits = f.ask_fits;
        value = f.value;
        value_fits = f.value_fits;
        size = omega arith;
        body = x.fits;
      },
      x.rest,
      all,
      omega arith,
    )

pub message_back : (m : Message) (rest : List ℕ) → FitsMessage m → message_value (message_text m ++ rest) ≡ Some m
unfolding message_at
message_back m rest h =
    let e : message_text m ++ rest ≡ head_text (head_of m) ++ (m.body ++ rest) = ap (λ (t : List ℕ). t ++ rest) (in_parts m) ∙ append_assoc (head_text (head_of m)) m.body rest in
    ap message_value e ∙ rw (head_back (head_of m) (m.body ++ rest) (head_fits m h), part_again (length m.body) m.body rest refl) refl

-- ---- what is settled stays so

behind_settled : (xs rest : List ℕ) (v : Verdict) → IsBytes xs → judge 56 whole_head 0 xs ≡ v → IsSettled (judge_message xs) → judge_message (xs ++ rest) ≡ judge_message xs
behind_settled xs rest More b is s = absurd (subst IsSettled (ap (λ (v : Verdict). judge_behind v (head_at xs)) is) s)
behind_settled xs rest (Refused r) b is s =
    let more = settled_more 56 whole_head 0 xs rest (subst IsSettled (sym is) tt) ∙ is in
    ap (λ (v : Verdict). judge_behind v (head_at (xs ++ rest))) more ∙ sym (ap (λ (v : Verdict). judge_behind v (head_at xs)) is)
behind_settled xs rest (Done k) b is s =
    let t = head_takes xs k b is in
    let h = t.0 in
    let here : judge_message xs ≡ judge_body h.kind h.size t.2.rest = ap judge_message t.2.parts ∙ opened h t.2.rest t.1 in
    let more : judge_message (xs ++ rest) ≡ judge_body h.kind h.size (t.2.rest ++ rest) = ap judge_message (ap (λ (y : List ℕ). y ++ rest) t.2.parts ∙ append_assoc (head_text h) t.2.rest rest) ∙ opened h (t.2.rest ++ rest) t.1 in
    more ∙ body_settled h.kind h.size t.2.rest rest (subst IsSettled here s) ∙ sym here

pub message_settled : (xs rest : List ℕ) → IsBytes xs → IsSettled (judge_message xs) → judge_message (xs ++ rest) ≡ judge_message xs
message_settled xs rest b s = behind_settled xs rest (judge 56 whole_head 0 xs) b refl s

-- ---- laws of the relation

some_is : (m n : Message) → Some m ≡ Some n → m ≡ n
some_is m n e = cc

same_front : (m n : Message) (rest a b : List ℕ) → FitsMessage m × (a ≡ message_text m) → FitsMessage n × (b ≡ message_text n) → a ++ rest ≡ b → m ≡ n
same_front m n rest a b h k e =
    let x : message_value b ≡ Some m = ap message_value (sym e ∙ ap (λ (t : List ℕ). t ++ rest) h.1) ∙ message_back m rest h.0 in
    let y : message_value b ≡ Some n = ap message_value (k.1 ∙ sym (append-nil (message_text n))) ∙ message_back n [] k.0 in
    some_is m n (sym x ∙ y)

pub one_value : (m n : Message) (a : List ℕ) → FitsMessage m × (a ≡ message_text m) → FitsMessage n × (a ≡ message_text n) → m ≡ n
one_value m n a h k = same_front m n [] a a h k (append-nil a)

pub no_prefix : (m n : Message) (a rest : List ℕ) → FitsMessage m × (a ≡ message_text m) → FitsMessage n × (a ++ rest ≡ message_text n) → rest ≡ []
no_prefix m n a rest h k =
    let same = same_front m n rest a (a ++ rest) h k refl in
    let e : a ++ rest ≡ a = k.1 ∙ ap message_text (sym same) ∙ sym h.1 in
    nil_from_length rest (omega (arith, sym (length-append a rest) ∙ ap length e))

pub done_spelled : (bytes : List ℕ) (k : ℕ) → IsBytes bytes → judge_message bytes ≡ Done k → (m : Message) × (FitsMessage m × (take k bytes ≡ message_text m)) × (k ≤ length bytes)
done_spelled bytes k b d =
    let t = message_takes bytes k b d in
    (t.0, (t.1, ap (take k) t.3 ∙ take_at (message_text t.0) t.2 k (sym t.4)), omega (arith, ap length t.3 ∙ length-append (message_text t.0) t.2, t.4))

pub spelled_done : (m : Message) (a rest : List ℕ) → FitsMessage m × (a ≡ message_text m) → judge_message (a ++ rest) ≡ Done (length a)
spelled_done m a rest h = ap (λ (t : List ℕ). judge_message (t ++ rest)) h.1 ∙ message_again m rest h.0 ∙ ap (λ (t : List ℕ). Done (length t)) (sym h.1)

pub refused_none : (bytes : List ℕ) (r : Refusal) (m : Message) (rest : List ℕ) → IsBytes bytes → judge_message bytes ≡ Refused r → FitsMessage m × (bytes ++ rest ≡ message_text m) → ⊥
refused_none bytes r m rest b e h =
    let x = message_settled bytes rest b (subst IsSettled (sym e) tt) ∙ e in
    let y = ap judge_message (sym (append-nil (bytes ++ rest))) ∙ spelled_done m (bytes ++ rest) [] h in
    let z : Refused r ≡ Done (length (bytes ++ rest)) = sym x ∙ y in
    cc

pub more_none : (bytes : List ℕ) (m : Message) (a rest : List ℕ) → judge_message bytes ≡ More → FitsMessage m × (a ≡ message_text m) → bytes ≡ a ++ rest → ⊥
more_none bytes m a rest e h is =
    let y = ap judge_message is ∙ spelled_done m a rest h in
    let z : More ≡ Done (length a) = sym e ∙ y in
    cc

-- ---- what the decoder builds

pub built_same : (bytes : List ℕ) (m : Message) (e : ℕ) → IsBytes bytes → judge_message bytes ≡ Done e → message_value bytes ≡ Some m → (e ≤ length bytes) × (FitsMessage m × (take e bytes ≡ message_text m))
built_same bytes m e b d v =
    let t = message_takes bytes e b d in
    let same : t.0 ≡ m = some_is t.0 m (sym (ap message_value t.3 ∙ message_back t.0 t.2 t.1) ∙ v) in
    let s = done_spelled bytes e b d in
    let front_is = ap (take e) t.3 ∙ take_at (message_text t.0) t.2 e (sym t.4) in
    (s.2, subst (λ (m : Message). FitsMessage m × (take e bytes ≡ message_text m)) same (t.1, front_is))

pub never_short : (bytes : List ℕ) (e : ℕ) → IsBytes bytes → judge_message bytes ≡ Done e → message_value bytes ≡ None → ⊥
never_short bytes e b d v =
    let t = message_takes bytes e b d in
    let x : Some t.0 ≡ None = sym (ap message_value t.3 ∙ message_back t.0 t.2 t.1) ∙ v in
    cc
