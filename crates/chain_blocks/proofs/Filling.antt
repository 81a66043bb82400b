-- Bytes that are written into the blocks of a chain, one block after another.
use Rattle.std.proofs.Common.{◌≡◌, ◌≢◌, ◌<◌, ◌≤◌, ◌+◌, ◌*◌, ◌-◌, ℕ, List, [], ◌∷◌, ◌++◌, length, get_or, take, drop, min, replicate, refl, sym, ◌∙◌, ap, subst, arith, append_assoc, append-nil, length-take, length-drop, length-append}
use Rattle.std.specs.Prelude.{Result, Ok, IsErr}
use Rattle.std.proofs.lemmas.List.{take-append-drop, take_all, take_min, length-replicate}
use Rattle.std.proofs.lemmas.Result.{IfOk-from_err}
use Rattle.std.proofs.Math.Seq.{take-add}
use Rattle.outside.specs.Disk.{Shown, Writes, ChangesOnly, part, put}
use Rattle.outside.proofs.Parts.{part_put}
use Rattle.chain_blocks.specs.Chains.{IsTrail, times, block_len, last_link}
use Rattle.chain_blocks.specs.Stored.{IsCount, KeepsOthers, Wrote, filled, place, stored}
use Rattle.chain_blocks.proofs.Counting.{times-append, times_here, times_there}
use Rattle.chain_blocks.proofs.Spans.{keeps_none, keeps_on, keeps_in, keeps_block, stored_others, stored-append}
use Rattle.chain_blocks.proofs.Taking.{drop_one, take_one}

pub count_unique : (a b len : ℕ) → IsCount a len → IsCount b len → a ≡ b
count_unique a b len one two = omega (arith, one.most, one.least, two.most, two.least)

-- the first blocks of a chain have what they get
pub record Filling (at i : ℕ) (bytes chain : List ℕ) (old new : Shown) : Type 0 where
  pub settled : KeepsOthers at (take i chain) old.settled new.settled
  pub content : KeepsOthers at (take i chain) old.content new.content
  pub written : stored new.content at (take i chain) ≡ filled i (take (block_len * i) bytes)

pub filling_none : (at : ℕ) (bytes chain : List ℕ) (old : Shown) → Filling at 0 bytes chain old old
filling_none at bytes chain old = record { settled = keeps_none at old.settled; content = keeps_none at old.content; written = refl }

pub length-filled : (bytes : List ℕ) → length bytes ≤ block_len → length (filled 1 bytes) ≡ block_len
length-filled bytes fits = omega (arith, length-append bytes (replicate (block_len * 1 - length bytes) 0), length-replicate {A = ℕ} (block_len * 1 - length bytes) 0)

filled_front : (i : ℕ) (bytes : List ℕ) → block_len * i ≤ length bytes → filled i (take (block_len * i) bytes) ≡ take (block_len * i) bytes
filled_front i bytes le =
    let none : block_len * i - length (take (block_len * i) bytes) ≡ 0 = omega (arith, length-take (block_len * i) bytes) in
    ap (λ (n : ℕ). take (block_len * i) bytes ++ replicate n 0) none ∙ append-nil (take (block_len * i) bytes)

-- what is taken for the next block
pub piece_is : (i k : ℕ) (bytes : List ℕ) → k ≡ min block_len (length bytes - block_len * i) → take k (drop (block_len * i) bytes) ≡ take block_len (drop (block_len * i) bytes)
piece_is i k bytes is =
    ap (λ (n : ℕ). take n (drop (block_len * i) bytes)) (is ∙ ap (min block_len) (sym (length-drop (block_len * i) bytes))) ∙ take_min block_len (drop (block_len * i) bytes)

pub piece_fits : (i k : ℕ) (bytes : List ℕ) → k ≡ min block_len (length bytes - block_len * i) → length (take k (drop (block_len * i) bytes)) ≤ block_len
piece_fits i k bytes is = omega (arith, length-take k (drop (block_len * i) bytes))

filled_next : (i : ℕ) (bytes piece : List ℕ) → block_len * i ≤ length bytes → piece ≡ take block_len (drop (block_len * i) bytes) → filled i (take (block_len * i) bytes) ++ filled 1 piece ≡ filled (i + 1) (take (block_len * (i + 1)) bytes)
filled_next i bytes piece le is =
    let front = take (block_len * i) bytes in
    let more : take (block_len * (i + 1)) bytes ≡ front ++ piece =
    let e : block_len * (i + 1) ≡ block_len * i + block_len = omega arith in
    ap (λ (n : ℕ). take n bytes) e ∙ take-add (block_len * i) block_len bytes ∙ ap (λ (l : List ℕ). front ++ l) (sym is) in
    let room : block_len * 1 - length piece ≡ block_len * (i + 1) - length (front ++ piece) = omega (arith, length-append front piece, length-take (block_len * i) bytes) in
    ap (λ (l : List ℕ). l ++ filled 1 piece) (filled_front i bytes le)
    ∙ sym (append_assoc front piece (replicate (block_len * 1 - length piece) 0))
    ∙ ap (λ (n : ℕ). (front ++ piece) ++ replicate n 0) room
    ∙ ap (λ (l : List ℕ). filled (i + 1) l) (sym more)

-- a block of a chain stands in the front of it no more
times_front : (i b : ℕ) (chain : List ℕ) → i < length chain → b ≡ get_or chain i 0 → ((k : ℕ) → times k chain ≤ 1) → times b (take i chain) ≡ 0
times_front i b chain lt is once =
    let all : chain ≡ take i chain ++ (b ∷ drop (i + 1) chain) = sym (take-append-drop i chain) ∙ ap (λ (l : List ℕ). take i chain ++ l) (drop_one chain i lt ∙ ap (λ (j : ℕ). j ∷ drop (i + 1) chain) (sym is)) in
    omega (arith, once b, ap (times b) all, times-append b (take i chain) (b ∷ drop (i + 1) chain), times_here b (drop (i + 1) chain))

pub trail_at : (links chain : List ℕ) (i block : ℕ) → i < length chain → IsTrail links block (drop i chain) → (block ≡ get_or chain i 0) × (block < length links) × IsTrail links (get_or links block last_link) (drop (i + 1) chain)
trail_at links chain i block lt trail = by_first (get_or chain i 0) (subst (IsTrail links block) (drop_one chain i lt) trail)
  where
    by_first : (b : ℕ) → IsTrail links block (b ∷ drop (i + 1) chain) → (block ≡ b) × (block < length links) × IsTrail links (get_or links block last_link) (drop (i + 1) chain)
    by_first b (same, inside, behind) = (same, subst (λ (j : ℕ). j < length links) (sym same) inside, subst (λ (j : ℕ). IsTrail links (get_or links j last_link) (drop (i + 1) chain)) (sym same) behind)

module _ {T E : Type 0} where
  -- the next block
  pub filling_next : (at i block : ℕ) (bytes chain piece : List ℕ) (r : Result T E) (old mid new : Shown) → i < length chain → block ≡ get_or chain i 0 → ((k : ℕ) → times k chain ≤ 1)
      → block_len * i ≤ length bytes → piece ≡ take block_len (drop (block_len * i) bytes) → length piece ≤ block_len → place at block + block_len ≤ length mid.content
      → Writes (place at block) (filled 1 piece) r mid new → new.content ≡ put mid.content (place at block) (filled 1 piece) → Filling at i bytes chain old mid → Filling at (i + 1) bytes chain old new
  filling_next at i block bytes chain piece r old mid new lt is once le piece_is fits inside writes content f =
      let len = length-filled piece fits in
      let all : take (i + 1) chain ≡ take i chain ++ block ∷ [] = take_one chain i lt ∙ ap (λ (b : ℕ). take i chain ++ b ∷ []) (sym is) in
      let keeps_settled : KeepsOthers at (block ∷ []) mid.settled new.settled = keeps_block at block mid.settled new.settled (subst (λ (n : ℕ). ChangesOnly (place at block) n mid.settled new.settled) len writes.settled) in
      let keeps_content : KeepsOthers at (block ∷ []) mid.content new.content = keeps_block at block mid.content new.content (subst (λ (n : ℕ). ChangesOnly (place at block) n mid.content new.content) len writes.content) in
      let here : part (place at block) block_len new.content ≡ filled 1 piece =
      ap (part (place at block) block_len) content ∙ ap (λ (n : ℕ). part (place at block) n (put mid.content (place at block) (filled 1 piece))) (sym len) ∙ part_put mid.content (place at block) (filled 1 piece) (omega (arith, len)) in
      let front : stored new.content at (take i chain) ≡ stored mid.content at (take i chain) =
      stored_others at (block ∷ []) (take i chain) mid.content new.content (apart (times_front i block chain lt is once)) keeps_content in record {
        settled = subst (λ (l : List ℕ). KeepsOthers at l old.settled new.settled) (sym all) (keeps_on at (take i chain) (block ∷ []) old.settled mid.settled new.settled f.settled keeps_settled);
        content = subst (λ (l : List ℕ). KeepsOthers at l old.content new.content) (sym all) (keeps_on at (take i chain) (block ∷ []) old.content mid.content new.content f.content keeps_content);
        written = ap (stored new.content at) all ∙ stored-append new.content at (take i chain) (block ∷ [])
            ∙ ap (λ (l : List ℕ). l ++ stored new.content at (block ∷ [])) (front ∙ f.written)
            ∙ ap (λ (l : List ℕ). filled i (take (block_len * i) bytes) ++ l) (append-nil (part (place at block) block_len new.content) ∙ here)
            ∙ filled_next i bytes piece le piece_is;
      }
    where
      apart : times block (take i chain) ≡ 0 → (b : ℕ) → times b (take i chain) ≢ 0 → times b (block ∷ []) ≡ 0
      apart none b ne = times_there block b [] (λ e. ne (ap (λ (k : ℕ). times k (take i chain)) (sym e) ∙ none))

  -- a block that may be torn
  pub filling_torn : (at i block : ℕ) (bytes chain piece : List ℕ) (r q : Result T E) (old mid new : Shown) → IsErr q → i < length chain → block ≡ get_or chain i 0 → length piece ≤ block_len
      → Writes (place at block) (filled 1 piece) r mid new → Filling at i bytes chain old mid → Wrote at (length chain) bytes chain q old new
  filling_torn at i block bytes chain piece r q old mid new err lt is fits writes f =
      let len = length-filled piece fits in
      let all : chain ≡ take i chain ++ (block ∷ drop (i + 1) chain) = sym (take-append-drop i chain) ∙ ap (λ (l : List ℕ). take i chain ++ l) (drop_one chain i lt ∙ ap (λ (j : ℕ). j ∷ drop (i + 1) chain) (sym is)) in
      let within : (b : ℕ) → times b chain ≡ 0 → times b (take i chain ++ block ∷ []) ≡ 0 =
      λ b none. omega (arith, ap (times b) all, times-append b (take i chain) (block ∷ drop (i + 1) chain), times-append b (take i chain) (block ∷ [])) in record {
        settled = keeps_in at (take i chain ++ block ∷ []) chain old.settled new.settled within (keeps_on at (take i chain) (block ∷ []) old.settled mid.settled new.settled f.settled (keeps_block at block mid.settled new.settled (subst (λ (n : ℕ). ChangesOnly (place at block) n mid.settled new.settled) len writes.settled)));
        content = keeps_in at (take i chain ++ block ∷ []) chain old.content new.content within (keeps_on at (take i chain) (block ∷ []) old.content mid.content new.content f.content (keeps_block at block mid.content new.content (subst (λ (n : ℕ). ChangesOnly (place at block) n mid.content new.content) len writes.content)));
        written = IfOk-from_err q (λ _. stored new.content at chain ≡ filled (length chain) bytes) err;
      }

-- all blocks
pub filling_all : {T E : Type 0} (at i : ℕ) (bytes chain : List ℕ) (t : T) (old new : Shown) → i ≡ length chain → IsCount (length chain) (length bytes) → Filling at i bytes chain old new → Wrote {T = T} {E = E} at (length chain) bytes chain (Ok t) old new
filling_all at i bytes chain t old new is count f =
    let whole : take i chain ≡ chain = take_all i chain (omega arith) in
    let all : take (block_len * i) bytes ≡ bytes = take_all (block_len * i) bytes (omega (arith, count.most)) in record {
      settled = subst (λ (l : List ℕ). KeepsOthers at l old.settled new.settled) whole f.settled;
      content = subst (λ (l : List ℕ). KeepsOthers at l old.content new.content) whole f.content;
      written = ap (stored new.content at) (sym whole) ∙ f.written ∙ ap (filled i) all ∙ ap (λ (n : ℕ). filled n bytes) is;
    }
