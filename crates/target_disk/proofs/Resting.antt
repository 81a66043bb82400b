-- The last bytes of a commit, with zeros behind them.
use Rattle.std.specs.Prelude.{Result, Ok, Err, OnOk}
use Rattle.std.proofs.Common.{◌≡◌, ◌≢◌, ◌≤◌, ◌+◌, ◌-◌, ℕ, List, [], ◌∷◌, ◌++◌, Option, Some, length, take, replicate, refl, sym, ◌∙◌, ap, subst, arith, append_assoc, append-nil}
use Rattle.std.proofs.Math.Seq.{take-append_seam}
use Rattle.outside.specs.Disk.{Shown, Writes, part, put}
use Rattle.outside.proofs.Parts.{part_put}
use Rattle.chain_blocks.specs.Chains.{Linked, block_len, times}
use Rattle.chain_blocks.specs.Stored.{KeepsOthers, place, stored}
use Rattle.chain_blocks.proofs.Counting.{times_there}
use Rattle.chain_blocks.proofs.Spans.{keeps_on, stored_others, stored-append}
use Rattle.target_disk.specs.Tables.{data_at}
use Rattle.target_disk.specs.Draft.{Begun}
use Rattle.target_disk.specs.Store.{HasPut}
use Rattle.target_disk.specs.Steps.{Extends, PoursRest}
use Rattle.target_disk.specs.Consistent.{Fits, draft_chain, full_blocks, full_of}
use Rattle.target_disk.specs.declared.book.Book.{Book}
use Rattle.target_disk.specs.declared.book.Draft.{Draft}
use Rattle.target_disk.proofs.Drafting.{begun_is, chain_is}
use Rattle.target_disk.proofs.Pouring.{writes_block}

-- a book with another block of bytes
pub record SameBook (one two : Book) : Type 0 where
  pub blocks : two.blocks ≡ one.blocks
  pub head : two.head ≡ one.head
  pub generation : two.generation ≡ one.generation
  pub table : two.table ≡ one.table
  pub draft : two.draft ≡ one.draft

pub same_chain : (one two : Book) → SameBook one two → draft_chain two ≡ draft_chain one
same_chain one two s = ap (λ (b : Linked). full_of b.links two.draft) s.blocks ∙ ap (full_of one.blocks.links) s.draft

module _ {T E : Type 0} where
  -- the last block is written, or torn
  pub rests_padded : (one two three : Book) (d : Draft) (block : ℕ) (r : Result T E) (old new : Shown) → one.draft ≡ Some d → Fits 4095 one → SameBook one two → two.block.items ≡ take d.fill one.block.items ++ replicate (block_len - d.fill) 0 → length two.block.items ≡ block_len
      → Extends two three block → place data_at block + block_len ≤ length old.content → Writes (place data_at block) two.block.items r old new → PoursRest r one three old new
  rests_padded one two three d block r old new is f s bytes_are len e inside writes =
      let keeps = writes_block block two.block.items r old new len writes in
      let all : draft_chain three ≡ draft_chain one ++ block ∷ [] = e.chain ∙ ap (λ (l : List ℕ). l ++ block ∷ []) (same_chain one two s) in record {
        settled = subst (λ (l : List ℕ). KeepsOthers data_at l old.settled new.settled) (sym all) (keeps_on data_at (draft_chain one) (block ∷ []) old.settled old.settled new.settled (record { size = refl; before = refl; others = λ b none. refl }) keeps.0);
        content = subst (λ (l : List ℕ). KeepsOthers data_at l old.content new.content) (sym all) (keeps_on data_at (draft_chain one) (block ∷ []) old.content old.content new.content (record { size = refl; before = refl; others = λ b none. refl }) keeps.1);
        put = λ bytes has. by_result r writes.written bytes (subst (λ (o : Option Begun). HasPut old o bytes) (begun_is one d is) has) keeps.1 all;
      }
    where
      apart : times block (draft_chain one) ≡ 0 → (b : ℕ) → times b (draft_chain one) ≢ 0 → times b (block ∷ []) ≡ 0
      apart none b ne = times_there block b [] (λ e. ne (ap (λ (k : ℕ). times k (draft_chain one)) (sym e) ∙ none))

      written : (bytes : List ℕ) → new.content ≡ put old.content (place data_at block) two.block.items → stored old.content data_at (full_blocks one.blocks.links d.ends) ++ take d.fill one.block.items ≡ bytes → KeepsOthers data_at (block ∷ []) old.content new.content
          → draft_chain three ≡ draft_chain one ++ block ∷ [] → take (length bytes) (stored new.content data_at (draft_chain three)) ≡ bytes
      written bytes content has keeps all =
          let items = two.block.items in
          let zeros : List ℕ = replicate (block_len - d.fill) 0 in
          let once : times block (draft_chain one) ≡ 0 = ap (times block) (sym (same_chain one two s)) ∙ e.once in
          let here : part (place data_at block) block_len new.content ≡ items =
          ap (part (place data_at block) block_len) content ∙ ap (λ (n : ℕ). part (place data_at block) n (put old.content (place data_at block) items)) (sym len) ∙ part_put old.content (place data_at block) items (omega (arith, len, inside)) in
          let full : stored old.content data_at (draft_chain one) ≡ stored old.content data_at (full_blocks one.blocks.links d.ends) = ap (stored old.content data_at) (chain_is one d is) in
          let whole : stored new.content data_at (draft_chain three) ≡ bytes ++ zeros =
          ap (stored new.content data_at) all ∙ stored-append new.content data_at (draft_chain one) (block ∷ [])
          ∙ ap (λ (l : List ℕ). l ++ stored new.content data_at (block ∷ [])) (stored_others data_at (block ∷ []) (draft_chain one) old.content new.content (apart once) keeps ∙ full)
          ∙ ap (λ (l : List ℕ). stored old.content data_at (full_blocks one.blocks.links d.ends) ++ l) (append-nil (part (place data_at block) block_len new.content) ∙ here ∙ bytes_are)
          ∙ sym (append_assoc (stored old.content data_at (full_blocks one.blocks.links d.ends)) (take d.fill one.block.items) zeros)
          ∙ ap (λ (l : List ℕ). l ++ zeros) has in
          ap (take (length bytes)) whole ∙ take-append_seam bytes zeros

      by_result : (r : Result T E) → OnOk r (new.content ≡ put old.content (place data_at block) two.block.items) → (bytes : List ℕ) → stored old.content data_at (full_blocks one.blocks.links d.ends) ++ take d.fill one.block.items ≡ bytes → KeepsOthers data_at (block ∷ []) old.content new.content
          → draft_chain three ≡ draft_chain one ++ block ∷ [] → OnOk r (take (length bytes) (stored new.content data_at (draft_chain three)) ≡ bytes)
      by_result (Ok x) content bytes has keeps all = written bytes content has keeps all
      by_result (Err x) content bytes has keeps all = tt
