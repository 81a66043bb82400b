-- The head of a message: what is spelled is read, what is read is spelled, and the value is found.
use Rattle.std.proofs.Common.{◌≡◌, ℕ, ◌+◌, ◌^◌, ◌≤◌, ◌<◌, Bool, true, ◌==◌, ◌&&◌, ◌⊎◌, if◌then◌else◌, List, [], ◌∷◌, ◌++◌, length, Option, Some, None, refl, sym, ap, subst, ◌∙◌, arith, lit<, append_assoc, length-append, inl, inr}
use Rattle.std.specs.Prelude.{nat_le}
use Rattle.std.specs.Int.{w32, w64}
use Rattle.std.proofs.lemmas.Bool.{eqb-true, leb-true, le-leb}
use Rattle.byte_grammar.specs.declared.verdict.Reason.TheVariants.{BadMagic, BadLength, BadValue}
use Rattle.byte_grammar.specs.declared.verdict.Verdict.TheVariants.{Done}
use Rattle.byte_grammar.specs.Grammar.{Grammar, judge}
use Rattle.byte_grammar.specs.Grammar.Grammar.{Ends}
use Rattle.byte_grammar.specs.Numbers.{word, worth, IsBytes, zeros}
use Rattle.byte_grammar.specs.Fields.{number, nothing}
use Rattle.byte_grammar.proofs.Bytes.{wide32, wide64, length-zeros}
use Rattle.byte_grammar.proofs.Parts.{Leads, leads_then, field_leads, number_leads, nothing_leads, Takes, joined, field_takes, number_takes, nothing_takes}
use Rattle.byte_grammar.proofs.Again.{part_again, number_back}
use Rattle.update_record.specs.declared.head.Head.{Head}
use Rattle.update_record.specs.declared.message.MessageKind.{MessageKind}
use Rattle.update_record.specs.declared.message.MessageKind.TheVariants as kind
use Rattle.update_record.specs.Messages.{code_of, kinds, first_with, kind_at, has_epoch, has_number, has_attempt, has_ask, has_value, has_body, or_zero, is_sender, message_magic}
use Rattle.update_record.specs.MessageReading.{at_size, at_value, at_ask, at_attempt, at_number, at_receiver, at_sender, at_epoch, by_kind, at_kind, whole_head}
use Rattle.update_record.specs.MessageValues.{head_at}
use Rattle.update_record.proofs.Records.{or_cases, within_is}

pub record FitsHead (h : Head) : Type 0 where
  pub epoch : h.epoch < 2 ^ 32
  pub epoch_fits : or_zero (has_epoch h.kind) h.epoch ≡ true
  pub sender : is_sender h.from ≡ true
  pub receiver : h.to ≤ 15
  pub number : h.number < 2 ^ 32
  pub number_fits : or_zero (has_number h.kind) h.number ≡ true
  pub attempt : h.attempt < 2 ^ 64
  pub attempt_fits : or_zero (has_attempt h.kind) h.attempt ≡ true
  pub ask : h.ask < 2 ^ 32
  pub ask_fits : or_zero (has_ask h.kind) h.ask ≡ true
  pub value : h.value < 2 ^ 64
  pub value_fits : or_zero (has_value h.kind) h.value ≡ true
  pub size : h.size < 2 ^ 32
  pub size_fits : or_zero (has_body h.kind) h.size ≡ true

-- behind the number
abbrev pub behind_text : Head → List ℕ
behind_text h = word w64 h.attempt ++ (word w32 h.ask ++ (zeros 4 ++ (word w64 h.value ++ (word w32 h.size ++ zeros 4))))

abbrev pub head_text : Head → List ℕ
head_text h = word w32 message_magic ++ (word w32 (code_of h.kind) ++ (word w32 h.epoch ++ (word w32 h.from ++ (word w32 h.to ++ (word w32 h.number ++ behind_text h)))))

pub length-head : (h : Head) → length (head_text h) ≡ 56
length-head h = simp (length-append, length-zeros, wide32.len, wide64.len)

length-behind : (h : Head) → length (behind_text h) ≡ 32
length-behind h = simp (length-append, length-zeros, wide32.len, wide64.len)

-- ---- kinds

code_small : (k : MessageKind) → code_of k < 2 ^ 32
code_small kind.Request = lit< tt
code_small _ = lit< tt

kind_again : (k : MessageKind) → kind_at (code_of k) ≡ Some k
unfolding kind_at
kind_again kind.Request = refl
kind_again _ = refl

chosen : (b : Bool) (x k : MessageKind) (o : Option MessageKind) → (if b then Some x else o) ≡ Some k → ((b ≡ true) × (x ≡ k)) ⊎ (o ≡ Some k)
chosen true x k o e = inl (refl, cc)
chosen _ x k o e = inr e

first_is : (n : ℕ) (ks : List MessageKind) (k : MessageKind) → first_with n ks ≡ Some k → code_of k ≡ n
first_is n [] k e = absurd cc
first_is n (x ∷ ks) k e =
    elim (chosen (code_of x == n) x k (first_with n ks) e) [
      | inl h ↦ ap code_of (sym h.1) ∙ eqb-true (code_of x) n h.0
      | inr h ↦ first_is n ks k h
    ]

kind_is : (n : ℕ) (k : MessageKind) → kind_at n ≡ Some k → code_of k ≡ n
unfolding kind_at
kind_is n k e = first_is n kinds k e

kind_taken : (l : ℕ) (o : Option MessageKind) (p q : ℕ) (xs : List ℕ) (e : ℕ) → judge l (by_kind o p) q xs ≡ Done e → (k : MessageKind) × (o ≡ Some k) × (judge l (at_epoch k) q xs ≡ Done e)
unfolding judge
kind_taken l None p q xs e d = absurd cc
kind_taken l (Some k) p q xs e d = (k, refl, d)

sender_small : (n : ℕ) → is_sender n ≡ true → n < 2 ^ 32
sender_small n h =
    elim (or_cases (nat_le n 15) (nat_le 256 n && nat_le n 319) h) as (λ _. n < 2 ^ 32) [
      | inl a ↦ let x = leb-true n 15 a in omega (arith, x)
      | inr b ↦ let x = within_is 256 319 n b in omega (arith, x.1)
    ]

-- ---- what is written is read

behind_leads : (h : Head) → FitsHead h → Leads 56 (at_attempt h.kind) Ends 24 (behind_text h)
unfolding at_attempt at_ask at_value at_size
behind_leads h f =
    let l : ℕ = 56 in
    let k = h.kind in
    let l1 = wide64.len h.attempt in
    let l2 = wide32.len h.ask in
    let l3 = length-zeros 4 in
    let l4 = wide64.len h.value in
    let l5 = wide32.len h.size in
    let p1 = 24 + length (word w64 h.attempt) in
    let p2 = p1 + length (word w32 h.ask) in
    let p3 = p2 + length (zeros 4) in
    let p4 = p3 + length (word w64 h.value) in
    let p5 = p4 + length (word w32 h.size) in
    let x6 = nothing_leads l 4 Ends p5 (omega arith) in
    let x5 = number_leads l w32 wide32 BadLength (or_zero (has_body k)) (λ _. nothing 4 Ends) p4 h.size f.size f.size_fits (omega arith) in
    let t5 = leads_then l (at_size k) (nothing 4 Ends) Ends p4 (word w32 h.size) (zeros 4) x5 x6 in
    let x4 = number_leads l w64 wide64 BadValue (or_zero (has_value k)) (λ _. at_size k) p3 h.value f.value f.value_fits (omega arith) in
    let t4 = leads_then l (at_value k) (at_size k) Ends p3 (word w64 h.value) _ x4 t5 in
    let x3 = nothing_leads l 4 (at_value k) p2 (omega arith) in
    let t3 = leads_then l (nothing 4 (at_value k)) (at_value k) Ends p2 (zeros 4) _ x3 t4 in
    let x2 = number_leads l w32 wide32 BadValue (or_zero (has_ask k)) (λ _. nothing 4 (at_value k)) p1 h.ask f.ask f.ask_fits (omega arith) in
    let t2 = leads_then l (at_ask k) (nothing 4 (at_value k)) Ends p1 (word w32 h.ask) _ x2 t3 in
    let x1 = number_leads l w64 wide64 BadValue (or_zero (has_attempt k)) (λ _. at_ask k) 24 h.attempt f.attempt f.attempt_fits (omega arith) in
    leads_then l (at_attempt k) (at_ask k) Ends 24 (word w64 h.attempt) _ x1 t2

from_24 : (h : Head) (p : ℕ) → p ≡ 24 → FitsHead h → Leads 56 (at_attempt h.kind) Ends p (behind_text h)
from_24 h p e f = subst (λ (q : ℕ). Leads 56 (at_attempt h.kind) Ends q (behind_text h)) (sym e) (behind_leads h f)

head_leads : (h : Head) → FitsHead h → Leads 56 whole_head Ends 0 (head_text h)
unfolding whole_head at_kind at_epoch at_sender at_receiver at_number
head_leads h f =
    let l : ℕ = 56 in
    let k = h.kind in
    let c = code_of k in
    let l0 = wide32.len message_magic in
    let l1 = wide32.len c in
    let l2 = wide32.len h.epoch in
    let l3 = wide32.len h.from in
    let l4 = wide32.len h.to in
    let l5 = wide32.len h.number in
    let p1 = 0 + length (word w32 message_magic) in
    let p2 = p1 + length (word w32 c) in
    let p3 = p2 + length (word w32 h.epoch) in
    let p4 = p3 + length (word w32 h.from) in
    let p5 = p4 + length (word w32 h.to) in
    let p6 = p5 + length (word w32 h.number) in
    let t6 = from_24 h p6 (omega arith) f in
    let x5 = number_leads l w32 wide32 BadValue (or_zero (has_number k)) (λ _. at_attempt k) p5 h.number f.number f.number_fits (omega arith) in
    let t5 = leads_then l (at_number k) (at_attempt k) Ends p5 (word w32 h.number) (behind_text h) x5 t6 in
    let x4 = number_leads l w32 wide32 BadValue (λ n. nat_le n 15) (λ _. at_number k) p4 h.to (omega (arith, f.receiver)) (le-leb h.to 15 f.receiver) (omega arith) in
    let t4 = leads_then l (at_receiver k) (at_number k) Ends p4 (word w32 h.to) _ x4 t5 in
    let x3 = number_leads l w32 wide32 BadValue is_sender (λ _. at_receiver k) p3 h.from (sender_small h.from f.sender) f.sender (omega arith) in
    let t3 = leads_then l (at_sender k) (at_receiver k) Ends p3 (word w32 h.from) _ x3 t4 in
    let x2 = number_leads l w32 wide32 BadValue (or_zero (has_epoch k)) (λ _. at_sender k) p2 h.epoch f.epoch f.epoch_fits (omega arith) in
    let t2 = leads_then l (at_epoch k) (at_sender k) Ends p2 (word w32 h.epoch) _ x2 t3 in
    let known : by_kind (kind_at (worth w32 (word w32 c))) p1 ≡ at_epoch k = ap (λ (m : ℕ). by_kind (kind_at m) p1) (wide32.again c (code_small k)) ∙ ap (λ (o : Option MessageKind). by_kind o p1) (kind_again k) in
    let x1 = subst (λ (g : Grammar). Leads l at_kind g p1 (word w32 c)) known (field_leads l 4 (λ place bytes. by_kind (kind_at (worth w32 bytes)) place) p1 (word w32 c) l1 (omega arith)) in
    let t1 = leads_then l at_kind (at_epoch k) Ends p1 (word w32 c) _ x1 t2 in
    let x0 = number_leads l w32 wide32 BadMagic (λ n. n == message_magic) (λ _. at_kind) 0 message_magic (lit< tt) refl (omega arith) in
    leads_then l whole_head at_kind Ends 0 (word w32 message_magic) _ x0 t1

pub head_again : (h : Head) (rest : List ℕ) → FitsHead h → judge 56 whole_head 0 (head_text h ++ rest) ≡ Done (length (head_text h))
unfolding judge
head_again h rest f =
    let e : 0 + length (head_text h) ≡ length (head_text h) = omega arith in
    head_leads h f rest ∙ ap (λ (q : ℕ). Done q) e

-- ---- what is read was written

record TakesBehind (k : MessageKind) (p : ℕ) (xs : List ℕ) (e : ℕ) : Type 0 where
  attempt : ℕ
  ask : ℕ
  value : ℕ
  size : ℕ
  attempt_small : attempt < 2 ^ 64
  attempt_fits : or_zero (has_attempt k) attempt ≡ true
  ask_small : ask < 2 ^ 32
  ask_fits : or_zero (has_ask k) ask ≡ true
  value_small : value < 2 ^ 64
  value_fits : or_zero (has_value k) value ≡ true
  size_small : size < 2 ^ 32
  size_fits : or_zero (has_body k) size ≡ true
  text : Takes 56 Ends p xs e (word w64 attempt ++ (word w32 ask ++ (zeros 4 ++ (word w64 value ++ (word w32 size ++ zeros 4)))))

behind_takes : (k : MessageKind) (p : ℕ) (xs : List ℕ) (e : ℕ) → IsBytes xs → judge 56 (at_attempt k) p xs ≡ Done e → TakesBehind k p xs e
unfolding at_attempt at_ask at_value at_size
behind_takes k p xs e b d =
    let l : ℕ = 56 in
    let a1 = number_takes l w64 wide64 BadValue (or_zero (has_attempt k)) (λ _. at_ask k) p xs e b d in
    let p1 = p + length (word w64 a1.0) in
    let a2 = number_takes l w32 wide32 BadValue (or_zero (has_ask k)) (λ _. nothing 4 (at_value k)) p1 a1.3.rest e a1.3.fits a1.3.goes_on in
    let p2 = p1 + length (word w32 a2.0) in
    let a3 = nothing_takes l 4 (at_value k) p2 a2.3.rest e a2.3.fits a2.3.goes_on in
    let p3 = p2 + length (zeros 4) in
    let a4 = number_takes l w64 wide64 BadValue (or_zero (has_value k)) (λ _. at_size k) p3 a3.rest e a3.fits a3.goes_on in
    let p4 = p3 + length (word w64 a4.0) in
    let a5 = number_takes l w32 wide32 BadLength (or_zero (has_body k)) (λ _. nothing 4 Ends) p4 a4.3.rest e a4.3.fits a4.3.goes_on in
    let p5 = p4 + length (word w32 a5.0) in
    let a6 = nothing_takes l 4 Ends p5 a5.3.rest e a5.3.fits a5.3.goes_on in
    let t5 = joined l (nothing 4 Ends) Ends p4 a4.3.rest e (word w32 a5.0) (zeros 4) a5.3 a6 in
    let t4 = joined l (at_size k) Ends p3 a3.rest e (word w64 a4.0) _ a4.3 t5 in
    let t3 = joined l (at_value k) Ends p2 a2.3.rest e (zeros 4) _ a3 t4 in
    let t2 = joined l (nothing 4 (at_value k)) Ends p1 a1.3.rest e (word w32 a2.0) _ a2.3 t3 in
    let t1 = joined l (at_ask k) Ends p xs e (word w64 a1.0) _ a1.3 t2 in
    record {
      attempt = a1.0;
      ask = a2.0;
      value = a4.0;
      size = a5.0;
      attempt_small = a1.1;
      attempt_fits = a1.2;
      ask_small = a2.1;
      ask_fits = a2.2;
      value_small = a4.1;
      value_fits = a4.2;
      size_small = a5.1;
      size_fits = a5.2;
      text = t1;
    }

-- behind the kind
abbrev address_text : Head → List ℕ
address_text h = word w32 h.epoch ++ (word w32 h.from ++ (word w32 h.to ++ (word w32 h.number ++ behind_text h)))

record TakesAddress (k : MessageKind) (p : ℕ) (xs : List ℕ) (e : ℕ) : Type 0 where
  h : Head
  same : h.kind ≡ k
  fits : FitsHead h
  text : Takes 56 Ends p xs e (address_text h)

address_takes : (k : MessageKind) (p : ℕ) (xs : List ℕ) (e : ℕ) → IsBytes xs → judge 56 (at_epoch k) p xs ≡ Done e → TakesAddress k p xs e
unfolding at_epoch at_sender at_receiver at_number
address_takes k p xs e b d =
    let l : ℕ = 56 in
    let a2 = number_takes l w32 wide32 BadValue (or_zero (has_epoch k)) (λ _. at_sender k) p xs e b d in
    let p3 = p + length (word w32 a2.0) in
    let a3 = number_takes l w32 wide32 BadValue is_sender (λ _. at_receiver k) p3 a2.3.rest e a2.3.fits a2.3.goes_on in
    let p4 = p3 + length (word w32 a3.0) in
    let a4 = number_takes l w32 wide32 BadValue (λ n. nat_le n 15) (λ _. at_number k) p4 a3.3.rest e a3.3.fits a3.3.goes_on in
    let p5 = p4 + length (word w32 a4.0) in
    let a5 = number_takes l w32 wide32 BadValue (or_zero (has_number k)) (λ _. at_attempt k) p5 a4.3.rest e a4.3.fits a4.3.goes_on in
    let t = behind_takes k (p5 + length (word w32 a5.0)) a5.3.rest e a5.3.fits a5.3.goes_on in
    let back = word w64 t.attempt ++ (word w32 t.ask ++ (zeros 4 ++ (word w64 t.value ++ (word w32 t.size ++ zeros 4)))) in
    let t5 = joined l (at_attempt k) Ends p5 a4.3.rest e (word w32 a5.0) back a5.3 t.text in
    let t4 = joined l (at_number k) Ends p4 a3.3.rest e (word w32 a4.0) (word w32 a5.0 ++ back) a4.3 t5 in
    let t3 = joined l (at_receiver k) Ends p3 a2.3.rest e (word w32 a3.0) (word w32 a4.0 ++ (word w32 a5.0 ++ back)) a3.3 t4 in
    let t2 = joined l (at_sender k) Ends p xs e (word w32 a2.0) (word w32 a3.0 ++ (word w32 a4.0 ++ (word w32 a5.0 ++ back))) a2.3 t3 in
    record {
      h = record { kind = k; epoch = a2.0; from = a3.0; to = a4.0; number = a5.0; attempt = t.attempt; ask = t.ask; value = t.value; size = t.size };
      same = refl;
      fits = record {
        epoch = a2.1;
        epoch_fits = a2.2;
        sender = a3.2;
        receiver = leb-true a4.0 15 a4.2;
        number = a5.1;
        number_fits = a5.2;
        attempt = t.attempt_small;
        attempt_fits = t.attempt_fits;
        ask = t.ask_small;
        ask_fits = t.ask_fits;
        value = t.value_small;
        value_fits = t.value_fits;
        size = t.size_small;
        size_fits = t.size_fits;
      };
      text = t2;
    }

same_head : (n : ℕ) (code : List ℕ) (h : Head) → n ≡ message_magic → code ≡ word w32 (code_of h.kind) → word w32 n ++ (code ++ address_text h) ≡ head_text h
same_head n code h a b = rw (a, b) refl

pub head_takes : (xs : List ℕ) (e : ℕ) → IsBytes xs → judge 56 whole_head 0 xs ≡ Done e → (h : Head) × FitsHead h × Takes 56 Ends 0 xs e (head_text h)
unfolding whole_head at_kind
head_takes xs e b d =
    let l : ℕ = 56 in
    let a0 = number_takes l w32 wide32 BadMagic (λ n. n == message_magic) (λ _. at_kind) 0 xs e b d in
    let p1 = 0 + length (word w32 a0.0) in
    let f = field_takes l 4 (λ place bytes. by_kind (kind_at (worth w32 bytes)) place) p1 a0.3.rest e a0.3.fits a0.3.goes_on in
    let kt = kind_taken l (kind_at (worth w32 f.0)) p1 (p1 + length f.0) f.3.rest e f.3.goes_on in
    let k = kt.0 in
    let t = address_takes k (p1 + length f.0) f.3.rest e f.3.fits kt.2 in
    let t1 = joined l (at_epoch k) Ends p1 a0.3.rest e f.0 (address_text t.h) (record { rest = f.3.rest; parts = f.3.parts; fits = f.3.fits; goes_on = kt.2 }) t.text in
    let t0 = joined l at_kind Ends 0 xs e (word w32 a0.0) (f.0 ++ address_text t.h) a0.3 t1 in
    let code : f.0 ≡ word w32 (code_of t.h.kind) = sym (wide32.back f.0 f.1 f.2) ∙ ap (word w32) (sym (kind_is (worth w32 f.0) k kt.1) ∙ ap code_of (sym t.same)) in
    (t.h, t.fits, subst (Takes l Ends 0 xs e) (same_head a0.0 f.0 t.h (eqb-true a0.0 message_magic a0.2) code) t0)

-- ---- the value

pub head_back : (h : Head) (rest : List ℕ) → FitsHead h → head_at (head_text h ++ rest) ≡ Some (h, rest)
unfolding head_at
head_back h rest f =
    let c = code_of h.kind in
    let r12 = zeros 4 ++ rest in
    let r11 = word w32 h.size ++ r12 in
    let r10 = word w64 h.value ++ r11 in
    let r9 = zeros 4 ++ r10 in
    let r8 = word w32 h.ask ++ r9 in
    let r7 = word w64 h.attempt ++ r8 in
    let r6 = word w32 h.number ++ r7 in
    let r5 = word w32 h.to ++ r6 in
    let r4 = word w32 h.from ++ r5 in
    let r3 = word w32 h.epoch ++ r4 in
    let r2 = word w32 c ++ r3 in
    let e : head_text h ++ rest ≡ word w32 message_magic ++ r2 = simp append_assoc in
    ap head_at e
    ∙ rw (
      part_again 4 (word w32 message_magic) r2 (wide32.len message_magic),
      number_back w32 wide32 c r3 (code_small h.kind),
      kind_again h.kind,
      number_back w32 wide32 h.epoch r4 f.epoch,
      number_back w32 wide32 h.from r5 (sender_small h.from f.sender),
      number_back w32 wide32 h.to r6 (omega (arith, f.receiver)),
      number_back w32 wide32 h.number r7 f.number,
      number_back w64 wide64 h.attempt r8 f.attempt,
      number_back w32 wide32 h.ask r9 f.ask,
      part_again 4 (zeros 4) r10 (length-zeros 4),
      number_back w64 wide64 h.value r11 f.value,
      number_back w32 wide32 h.size r12 f.size,
      part_again 4 (zeros 4) rest (length-zeros 4),
    ) refl
