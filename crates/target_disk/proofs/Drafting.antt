-- What was put since a commit was begun.
use Rattle.std.proofs.Common.{◌≡◌, ◌≢◌, ◌⊎◌, inl, inr, ◌≤◌, ◌+◌, ◌*◌, ℕ, Some, eqb, length, take, sym, ◌∙◌, ap, arith, length-take}
use Rattle.std.proofs.lemmas.Bool.{eq-eqb, ne_eqb, cases_eq}
use Rattle.chain_blocks.specs.Chains.{block_len}
use Rattle.target_disk.specs.Draft.{put_len}
use Rattle.target_disk.specs.Consistent.{Fits, begun_of, begun_from, draft_chain, full_blocks, full_of}
use Rattle.target_disk.specs.declared.book.Book.{Book}
use Rattle.target_disk.specs.declared.book.Draft.{Draft}
use Rattle.target_disk.proofs.Chained.{draft_is, full_is}

pub begun_is : (book : Book) (d : Draft) → book.draft ≡ Some d → begun_of book ≡ Some (record { blocks = full_blocks book.blocks.links d.ends; rest = take d.fill book.block.items })
begun_is book d is = ap (begun_from book.blocks.links book.block.items) is

pub chain_is : (book : Book) (d : Draft) → book.draft ≡ Some d → draft_chain book ≡ full_blocks book.blocks.links d.ends
chain_is book d is = ap (full_of book.blocks.links) is

-- how many bytes were put, where the room of a block holds those behind the blocks that are full
pub put_len_is : (most : ℕ) (book : Book) (d : Draft) → Fits most book → most ≤ block_len → book.draft ≡ Some d → put_len (begun_of book) ≡ block_len * length (draft_chain book) + d.fill
put_len_is most book d f le is =
    let draft = draft_is most book d f is in
    omega (arith, ap put_len (begun_is book d is), ap length (chain_is book d is), length-take d.fill book.block.items, f.block, draft.1)

pub full_len : (most : ℕ) (book : Book) (d : Draft) → Fits most book → book.draft ≡ Some d → length (draft_chain book) ≡ d.full
full_len most book d f is = let full = full_is most book d f is in ap length (chain_is book d is ∙ full.0) ∙ full.1

pub full_when : (book : Book) (d : Draft) → Fits 4096 book → book.draft ≡ Some d → eqb d.fill 4096 ≡ eqb (put_len (begun_of book)) (block_len * length (draft_chain book) + block_len)
full_when book d f is = by_cases (cases_eq d.fill 4096)
  where
    len : put_len (begun_of book) ≡ block_len * length (draft_chain book) + d.fill
    len = put_len_is 4096 book d f (omega arith) is

    by_cases : (d.fill ≡ 4096) ⊎ (d.fill ≢ 4096) → eqb d.fill 4096 ≡ eqb (put_len (begun_of book)) (block_len * length (draft_chain book) + block_len)
    by_cases (inl e) = eq-eqb d.fill 4096 e ∙ sym (eq-eqb (put_len (begun_of book)) (block_len * length (draft_chain book) + block_len) (omega (arith, len)))
    by_cases (inr ne) = ne_eqb d.fill 4096 ne ∙ sym (ne_eqb (put_len (begun_of book)) (block_len * length (draft_chain book) + block_len) (λ e. ne (omega (arith, len))))

pub draft_len : (book : Book) (d : Draft) → Fits 4095 book → book.draft ≡ Some d → put_len (begun_of book) ≡ block_len * d.full + d.fill
draft_len book d f is = omega (arith, put_len_is 4095 book d f (omega arith) is, full_len 4095 book d f is)
