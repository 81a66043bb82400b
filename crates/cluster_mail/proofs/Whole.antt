-- Bytes that are a spelling are decoded whole, and refused for want of memory alone.
use Rattle.std.proofs.Common.{◌≡◌, ℕ, List, [], ◌++◌, length, take, ◌+◌, ◌≤◌, refl, sym, ap, ap₂, subst, arith, ◌∙◌, append-nil, take_all, le_refl}
use Rattle.byte_grammar.specs.declared.verdict.Refusal.{Refusal}
use Rattle.byte_grammar.specs.declared.verdict.Verdict.{Verdict}
use Rattle.byte_grammar.specs.declared.verdict.Verdict.TheVariants.{More, Done, Refused}
use Rattle.out_update.specs.declared.fault.UpdateFault.{UpdateFault}
use Rattle.out_update.specs.declared.fault.UpdateFault.TheVariants as update
use Rattle.out_update.specs.Decoding as updates
use Rattle.out_update.specs.Decoding.{judge_request}
use Rattle.out_update.specs.declared.update.Update.{Update}
use Rattle.out_update.specs.Spelling.{spells}
use Rattle.update_record.specs.Messages.{spells_question}
use Rattle.update_record.specs.declared.fault.RecordFault.{RecordFault}
use Rattle.update_record.specs.declared.fault.RecordFault.TheVariants as fault
use Rattle.update_record.specs.Decoding.{IsFault}

end_is : {p k : ℕ} → Done p ≡ Done k → p ≡ k
end_is e = cc

-- the verdict on bytes that are a spelling
pub alone : {V : Type 0} (spells : V → List ℕ → Type 0) (judge : List ℕ → Verdict) → ((v : V) (a rest : List ℕ) → spells v a → judge (a ++ rest) ≡ Done (length a)) → (v : V) (a : List ℕ) → spells v a → judge a ≡ Done (length a)
alone spells judge law v a h = ap judge (sym (append-nil a)) ∙ law v a [] h

-- what is spelled by the bytes up to the end is spelled by all of them
pub whole : {V : Type 0} (spells : V → List ℕ → Type 0) (judged : Verdict) (body : List ℕ) (value : V) (end : ℕ) → judged ≡ Done (length body) → judged ≡ Done end → spells value (take end body) → spells value body
whole spells judged body value end all some h = subst (spells value) (ap (λ (n : ℕ). take n body) (end_is (sym some ∙ all)) ∙ take_all (length body) body (le_refl (length body))) h

not_more : {k : ℕ} → More ≡ Done k → ⊥
not_more e = cc

pub never_more : (v : Verdict) (k : ℕ) → v ≡ Done k → v ≡ More → ⊥
never_more v k d m = not_more (sym m ∙ d)

not_done : {k : ℕ} {r : Refusal} → Refused r ≡ Done k → ⊥
not_done e = cc

refused_not : (v : Verdict) (k : ℕ) (r : Refusal) → v ≡ Done k → v ≡ Refused r → ⊥
refused_not v k r d f = not_done (sym f ∙ d)

-- the one fault of bytes whose verdict is Done
pub memory_alone : (e : RecordFault) (n k : ℕ) (v : Verdict) → v ≡ Done k → IsFault e n v → e ≡ fault.Memory
memory_alone fault.Memory n k v d f = refl
memory_alone (fault.BadMagic p) n k v d f = absurd (refused_not v k _ d f)
memory_alone (fault.BadType p) n k v d f = absurd (refused_not v k _ d f)
memory_alone (fault.BadCount p) n k v d f = absurd (refused_not v k _ d f)
memory_alone (fault.BadLength p) n k v d f = absurd (refused_not v k _ d f)
memory_alone (fault.BadPadding p) n k v d f = absurd (refused_not v k _ d f)
memory_alone (fault.BadValue p) n k v d f = absurd (refused_not v k _ d f)
memory_alone (fault.TooLong p) n k v d f = absurd (refused_not v k _ d f)
memory_alone (fault.Truncated p) n k v d f = absurd (never_more v k d f.1)

pub memory_alone_update : (e : UpdateFault) (k : ℕ) (v : Verdict) → v ≡ Done k → updates.IsFault e v → e ≡ update.Memory
memory_alone_update update.Memory k v d f = refl
memory_alone_update (update.BadMagic p) k v d f = absurd (refused_not v k _ d f)
memory_alone_update (update.BadType p) k v d f = absurd (refused_not v k _ d f)
memory_alone_update (update.BadCount p) k v d f = absurd (refused_not v k _ d f)
memory_alone_update (update.BadLength p) k v d f = absurd (refused_not v k _ d f)
memory_alone_update (update.BadPadding p) k v d f = absurd (refused_not v k _ d f)
memory_alone_update (update.BadValue p) k v d f = absurd (refused_not v k _ d f)
memory_alone_update (update.TooLong p) k v d f = absurd (refused_not v k _ d f)

-- ---- a question, of which the reader has nothing yet

pub question_done : (old body : List ℕ) (us : List Update) → ((us : List Update) (a rest : List ℕ) → spells us a → judge_request (a ++ rest) ≡ Done (length a)) → old ≡ [] → spells_question us body → judge_request (old ++ body) ≡ Done (length body)
question_done old body us law e h = ap (λ (o : List ℕ). judge_request (o ++ body)) e ∙ alone spells judge_request law us body (h.0.0, h.1)

pub question_whole : (old body : List ℕ) (us value : List Update) (used : ℕ) → ((us : List Update) (a rest : List ℕ) → spells us a → judge_request (a ++ rest) ≡ Done (length a)) → ((us vs : List Update) (a : List ℕ) → spells us a → spells vs a → us ≡ vs) → old ≡ [] → spells_question us body → judge_request (old ++ body) ≡ Done (length old + used) → spells value (old ++ take used body) → spells_question value body
question_whole old body us value used law one e h some text =
    let zero = ap length e in
    let sum : length old + used ≡ length body = end_is (sym some ∙ question_done old body us law e h) in
    let n : used ≡ length body = omega arith in
    let all : spells value body = subst (spells value) (ap₂ (λ (o : List ℕ) (k : ℕ). o ++ take k body) e n ∙ take_all (length body) body (le_refl (length body))) text in
    subst (λ (v : List Update). spells_question v body) (one us value body (h.0.0, h.1) all) h
