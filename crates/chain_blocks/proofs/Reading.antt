-- The bytes of a chain, read one block after another.
use Rattle.std.proofs.Common.{◌≡◌, ◌≢◌, ◌<◌, ◌≤◌, ◌+◌, ◌*◌, ℕ, List, [], ◌∷◌, ◌++◌, length, get_or, take, drop, refl, sym, ◌∙◌, ap, subst, arith, append_assoc, append-nil, length-drop, length-append}
use Rattle.std.specs.Prelude.{IsTrue}
use Rattle.std.proofs.lemmas.List.{take-append-drop}
use Rattle.std.proofs.Math.Seq.{take-append_seam}
use Rattle.outside.specs.Disk.{Shown, part}
use Rattle.chain_blocks.specs.Chains.{Linked, Holds, IsTrail, joined, block_len, last_link}
use Rattle.chain_blocks.specs.Stored.{ReadsOnly, place, stored}
use Rattle.chain_blocks.proofs.Spans.{stored-append}
use Rattle.chain_blocks.proofs.Taking.{take_one}
use Rattle.chain_blocks.proofs.Filling.{trail_at}

pub reads_none : (old : Shown) → ReadsOnly old old
reads_none old = record { stays = record { tells = refl; honest = refl; name = refl }; later = omega arith; content = λ tells. refl; settled = λ honest. refl }

pub reads_both : (one two three : Shown) → ReadsOnly one two → ReadsOnly two three → ReadsOnly one three
reads_both one two three first second = record {
  stays = record {
    tells = second.stays.tells ∙ first.stays.tells;
    honest = second.stays.honest ∙ first.stays.honest;
    name = second.stays.name ∙ first.stays.name;
  };
  later = omega (arith, first.later, second.later);
  content = λ tells. second.content (subst IsTrue (sym first.stays.tells) tells) ∙ first.content tells;
  settled = λ honest. second.settled (subst IsTrue (sym first.stays.honest) honest) ∙ first.settled honest;
}

-- the first blocks of a chain were read
pub record Reading (links chain : List ℕ) (at block : ℕ) (tells : Type 0) (content before now : List ℕ) : Type 0 where
  pub read : ℕ
  pub short : read ≤ length chain
  pub rest : IsTrail links block (drop read chain)
  pub len : length now ≡ length before + block_len * read
  pub bytes : tells → now ≡ before ++ stored content at (take read chain)

-- a chain's blocks, of which there are no more than links
pub record HasChain (links : List ℕ) (head : ℕ) (behind : List ℕ) : Type 0 where
  pub few : length links ≤ last_link
  pub trail : IsTrail links head (head ∷ behind)
  pub short : length (head ∷ behind) ≤ length links

pub has_chain : (blocks : Linked) (free : List ℕ) (head : ℕ) (behind : List ℕ) (chains : List (List ℕ)) → Holds blocks free ((head ∷ behind) ∷ chains) → HasChain blocks.links head behind
has_chain blocks free head behind chains h = record {
  few = h.few;
  trail = h.chains_stand.0;
  short = omega (arith, h.size, length-append (head ∷ behind) (joined chains));
}

module _ {tells : Type 0} (links chain : List ℕ) (at : ℕ) (content before : List ℕ) where
  pub reading_none : (head : ℕ) → IsTrail links head chain → Reading links chain at head tells content before before
  reading_none head trail = record { read = 0; short = omega arith; rest = trail; len = omega arith; bytes = λ t. sym (append-nil before) }

  -- a block behind which the chain goes on
  pub reading_inside : (block : ℕ) (now : List ℕ) → block ≢ last_link → (r : Reading links chain at block tells content before now) → r.read < length chain
  reading_inside block now ne r = by_rest (drop r.read chain) refl r.rest
    where
      by_rest : (rest : List ℕ) → drop r.read chain ≡ rest → IsTrail links block rest → r.read < length chain
      by_rest [] is last = absurd (ne last)
      by_rest (b ∷ bs) is trail = omega (arith, ap length is, length-drop r.read chain)

  pub reading_next : (block next : ℕ) (now new : List ℕ) → block ≢ last_link → next ≡ get_or links block last_link → length new ≡ length now + block_len → (tells → new ≡ now ++ part (place at block) block_len content)
      → Reading links chain at block tells content before now → Reading links chain at next tells content before new
  reading_next block next now new ne is more bytes r =
      let lt = reading_inside block now ne r in
      let here = trail_at links chain r.read block lt r.rest in record {
        read = r.read + 1;
        short = omega arith;
        rest = subst (λ (b : ℕ). IsTrail links b (drop (r.read + 1) chain)) (sym is) here.2;
        len = omega (arith, r.len);
        bytes = λ t.
            bytes t
            ∙ ap (λ (l : List ℕ). l ++ part (place at block) block_len content) (r.bytes t)
            ∙ append_assoc before (stored content at (take r.read chain)) (part (place at block) block_len content)
            ∙ ap (λ (l : List ℕ). before ++ l)
            (ap (λ (l : List ℕ). stored content at (take r.read chain) ++ l) (sym (append-nil (part (place at block) block_len content)))
            ∙ sym (stored-append content at (take r.read chain) (block ∷ []))
            ∙ ap (stored content at) (ap (λ (b : ℕ). take r.read chain ++ b ∷ []) here.0 ∙ sym (take_one chain r.read lt)));
      }

  -- at the end of a chain something was read
  pub reading_some : (head block : ℕ) (behind now : List ℕ) → length links ≤ last_link → chain ≡ head ∷ behind → IsTrail links head chain → block ≡ last_link → Reading links chain at block tells content before now → length before < length now
  reading_some head block behind now few is trail last r = by_rest (drop r.read chain) refl r.rest
    where
      by_rest : (rest : List ℕ) → drop r.read chain ≡ rest → IsTrail links block rest → length before < length now
      by_rest [] none end = omega (arith, r.len, ap length none, length-drop r.read chain, ap length is)
      by_rest (b ∷ bs) some (same, inside, more) = absurd (omega arith)

  pub reading_cut : (block : ℕ) (now : List ℕ) → Reading links chain at block tells content before now → tells → (n : ℕ) × (now ≡ before ++ take n (stored content at chain))
  reading_cut block now r t =
      let front = stored content at (take r.read chain) in
      let all : stored content at chain ≡ front ++ stored content at (drop r.read chain) = ap (stored content at) (sym (take-append-drop r.read chain)) ∙ stored-append content at (take r.read chain) (drop r.read chain) in
      (length front, r.bytes t ∙ ap (λ (l : List ℕ). before ++ l) (sym (take-append_seam front (stored content at (drop r.read chain))) ∙ ap (take (length front)) (sym all)))

  pub reading_all : (block : ℕ) (now : List ℕ) → length links ≤ last_link → block ≡ last_link → Reading links chain at block tells content before now → tells → now ≡ before ++ stored content at chain
  reading_all block now few is r told = r.bytes told ∙ ap (λ (l : List ℕ). before ++ stored content at l) (whole (drop r.read chain) refl r.rest)
    where
      whole : (rest : List ℕ) → drop r.read chain ≡ rest → IsTrail links block rest → take r.read chain ≡ chain
      whole [] none last = sym (append-nil (take r.read chain)) ∙ ap (λ (l : List ℕ). take r.read chain ++ l) (sym none) ∙ take-append-drop r.read chain
      whole (b ∷ bs) some (same, inside, behind) = absurd (omega arith)
