-- Pieces that are put behind one another, and the blocks that are written as they are full.
use Rattle.std.specs.Prelude.{Result, Ok, IsErr, IsSome}
use Rattle.std.proofs.lemmas.Result.{IfOk-from_err}
use Rattle.std.proofs.Common.{◌≡◌, ◌≢◌, ◌≤◌, ◌+◌, ◌*◌, ℕ, List, [], ◌∷◌, ◌++◌, false, Option, Some, None, eqb, length, take, refl, sym, ◌∙◌, ap, subst, arith, append_assoc, append-nil, length-append}
use Rattle.std.proofs.lemmas.Bool.{eq-eqb, false≢true, true≢false}
use Rattle.std.proofs.lemmas.List.{take_all}
use Rattle.outside.specs.Disk.{Shown, Writes, ChangesOnly, part, put}
use Rattle.outside.proofs.Parts.{part_put}
use Rattle.chain_blocks.specs.Chains.{block_len, times}
use Rattle.chain_blocks.specs.Stored.{KeepsOthers, place, stored}
use Rattle.chain_blocks.proofs.Counting.{times_there}
use Rattle.chain_blocks.proofs.Spans.{keeps_on, keeps_block, stored_others, stored-append}
use Rattle.target_disk.specs.Tables.{data_at}
use Rattle.target_disk.specs.Draft.{Begun, put_len, joins}
use Rattle.target_disk.specs.Store.{HasPut}
use Rattle.target_disk.specs.Steps.{Extends, KeepsImage, Pours}
use Rattle.target_disk.specs.Consistent.{Fits, IsDraft, begun_of, begun_from, draft_chain, full_blocks, full_of}
use Rattle.target_disk.specs.declared.book.Book.{Book}
use Rattle.target_disk.specs.declared.book.Draft.{Draft}
use Rattle.target_disk.proofs.Chained.{draft_is}
use Rattle.target_disk.proofs.Drafting.{begun_is, chain_is, put_len_is}

pub keeps_image : (one two three : Book) → KeepsImage one two → KeepsImage two three → KeepsImage one three
keeps_image one two three first second = record { chain = second.chain ∙ first.chain; head = second.head ∙ first.head; generation = second.generation ∙ first.generation }

-- where a commit was begun, it is known
pub some_draft : (o : Option Draft) → IsSome o → (d : Draft) × (o ≡ Some d)
some_draft (Some d) is = (d, refl)
some_draft None is = absurd (false≢true is)

pub still_begun : (one two : Book) (more : List ℕ) → IsSome one.draft → begun_of two ≡ joins (begun_of one) more → IsSome two.draft
still_begun one two more is joined = by_draft two.draft (let d = some_draft one.draft is in joined ∙ ap (λ (o : Option Begun). joins o more) (begun_is one d.0 d.1))
  where
    by_draft : {b : Begun} (o : Option Draft) → begun_from two.blocks.links two.block.items o ≡ Some b → IsSome o
    by_draft (Some d) e = refl
    by_draft {b} None e = absurd (none_not b e)
      where
        none_not : (b : Begun) → ◌≡◌ {A = Option Begun} None (Some b) → ⊥
        none_not b e = cc

pub extended_begun : (one two : Book) (block : ℕ) → Extends one two block → IsSome two.draft
extended_begun one two block e = by_draft two.draft e.chain
  where
    by_draft : (o : Option Draft) → full_of two.blocks.links o ≡ draft_chain one ++ block ∷ [] → IsSome o
    by_draft (Some d) is = refl
    by_draft None is = absurd (omega (arith, ap length is, length-append (draft_chain one) (block ∷ [])))

-- a block that isn't full
pub fits_under : (book : Book) → Fits 4096 book → IsSome book.draft → eqb (put_len (begun_of book)) (block_len * length (draft_chain book) + block_len) ≡ false → Fits 4095 book
fits_under book f is not_full =
    let d = some_draft book.draft is in
    let draft = draft_is 4096 book d.0 f d.1 in
    let len = put_len_is 4096 book d.0 f (omega arith) d.1 in
    let ne : put_len (begun_of book) ≢ block_len * length (draft_chain book) + block_len = λ e. true≢false (sym (eq-eqb (put_len (begun_of book)) (block_len * length (draft_chain book) + block_len) e) ∙ not_full) in
    let under : d.0.fill ≤ 4095 = under_full d.0.fill (λ e. ne (omega (arith, len))) draft.1 in record {
      free = f.free;
      behind = f.behind;
      taken = f.taken;
      holds = f.holds;
      draft = subst (λ (o : Option Draft). IsDraft 4095 o f.taken) (sym d.1) (draft.0, under, draft.2);
      count = f.count;
      short = f.short;
      table = f.table;
      block = f.block;
      positive = f.positive;
    }
  where
    under_full : (fill : ℕ) → fill ≢ 4096 → fill ≤ 4096 → fill ≤ 4095
    under_full fill ne le = omega arith

-- the bytes of a block that is full
pub begun_whole : (book : Book) → Fits 4096 book → IsSome book.draft → put_len (begun_of book) ≡ block_len * length (draft_chain book) + block_len → begun_of book ≡ Some (record { blocks = draft_chain book; rest = book.block.items })
begun_whole book f is full =
    let d = some_draft book.draft is in
    let len = put_len_is 4096 book d.0 f (omega arith) d.1 in
    let rest : take d.0.fill book.block.items ≡ book.block.items = take_all d.0.fill book.block.items (omega (arith, len, f.block)) in
    begun_is book d.0 d.1 ∙ ap (λ (l : List ℕ). let b : Begun = record { blocks = full_blocks book.blocks.links d.0.ends; rest = l } in Some b) rest
    ∙ ap (λ (l : List ℕ). let b : Begun = record { blocks = l; rest = book.block.items } in Some b) (sym (chain_is book d.0 d.1))

-- nothing stands behind the blocks that are full
pub begun_even : (book : Book) → IsSome book.draft → put_len (begun_of book) ≡ block_len * length (draft_chain book) → begun_of book ≡ Some (record { blocks = draft_chain book; rest = [] })
begun_even book is even =
    let d = some_draft book.draft is in
    let rest = take d.0.fill book.block.items in
    let none : rest ≡ [] = empty rest (omega (arith, ap put_len (begun_is book d.0 d.1), ap length (chain_is book d.0 d.1))) in
    begun_is book d.0 d.1 ∙ ap (λ (l : List ℕ). let b : Begun = record { blocks = full_blocks book.blocks.links d.0.ends; rest = l } in Some b) none
    ∙ ap (λ (l : List ℕ). let b : Begun = record { blocks = l; rest = [] } in Some b) (sym (chain_is book d.0 d.1))
  where
    empty : (xs : List ℕ) → length xs ≡ 0 → xs ≡ []
    empty [] e = refl
    empty (x ∷ xs) e = absurd (omega arith)

-- pieces were put
pub record Poured (piece : List ℕ) (before after : Book) (old new : Shown) : Type 0 where
  pub settled : KeepsOthers data_at (draft_chain after) old.settled new.settled
  pub content : KeepsOthers data_at (draft_chain after) old.content new.content
  pub put : (bytes : List ℕ) → HasPut old (begun_of before) bytes → HasPut new (begun_of after) (bytes ++ piece)

pub poured_more : (piece more : List ℕ) (before one two : Book) (old new : Shown) → draft_chain two ≡ draft_chain one → begun_of two ≡ joins (begun_of one) more → Poured piece before one old new → Poured (piece ++ more) before two old new
poured_more piece more before one two old new chain begun p = record {
  settled = subst (λ (l : List ℕ). KeepsOthers data_at l old.settled new.settled) (sym chain) p.settled;
  content = subst (λ (l : List ℕ). KeepsOthers data_at l old.content new.content) (sym chain) p.content;
  put = λ bytes has. subst (λ (o : Option Begun). HasPut new o (bytes ++ (piece ++ more))) (sym begun) (by_begun (begun_of one) bytes (p.put bytes has));
}
  where
    by_begun : (o : Option Begun) (bytes : List ℕ) → HasPut new o (bytes ++ piece) → HasPut new (joins o more) (bytes ++ (piece ++ more))
    by_begun None bytes has = has
    by_begun (Some b) bytes has = sym (append_assoc (stored new.content data_at b.blocks) b.rest more) ∙ ap (λ (l : List ℕ). l ++ more) has ∙ append_assoc bytes piece more

module _ {T E : Type 0} where
  pub writes_block : (block : ℕ) (bytes : List ℕ) (r : Result T E) (mid new : Shown) → length bytes ≡ block_len → Writes (place data_at block) bytes r mid new → KeepsOthers data_at (block ∷ []) mid.settled new.settled × KeepsOthers data_at (block ∷ []) mid.content new.content
  writes_block block bytes r mid new len writes = (
    keeps_block data_at block mid.settled new.settled (subst (λ (n : ℕ). ChangesOnly (place data_at block) n mid.settled new.settled) len writes.settled),
    keeps_block data_at block mid.content new.content (subst (λ (n : ℕ). ChangesOnly (place data_at block) n mid.content new.content) len writes.content),
  )

  -- the block is full, and was written
  pub poured_full : (piece : List ℕ) (before one two : Book) (block : ℕ) (r : Result T E) (old mid new : Shown) → Fits 4096 one → IsSome one.draft → put_len (begun_of one) ≡ block_len * length (draft_chain one) + block_len → Extends one two block
      → place data_at block + block_len ≤ length mid.content → Writes (place data_at block) one.block.items r mid new → new.content ≡ put mid.content (place data_at block) one.block.items → Poured piece before one old mid → Poured piece before two old new
  poured_full piece before one two block r old mid new f is full e inside writes content p =
      let keeps = writes_block block one.block.items r mid new f.block writes in
      let chain = draft_chain one in
      let items = one.block.items in
      let here : part (place data_at block) block_len new.content ≡ items =
      ap (part (place data_at block) block_len) content ∙ ap (λ (n : ℕ). part (place data_at block) n (put mid.content (place data_at block) items)) (sym f.block) ∙ part_put mid.content (place data_at block) items (omega (arith, f.block)) in
      let all : stored new.content data_at (draft_chain two) ≡ stored mid.content data_at chain ++ items =
      ap (stored new.content data_at) e.chain ∙ stored-append new.content data_at chain (block ∷ [])
      ∙ ap (λ (l : List ℕ). l ++ stored new.content data_at (block ∷ [])) (stored_others data_at (block ∷ []) chain mid.content new.content (apart e.once) keeps.1)
      ∙ ap (λ (l : List ℕ). stored mid.content data_at chain ++ l) (append-nil (part (place data_at block) block_len new.content) ∙ here) in record {
        settled = subst (λ (l : List ℕ). KeepsOthers data_at l old.settled new.settled) (sym e.chain) (keeps_on data_at chain (block ∷ []) old.settled mid.settled new.settled p.settled keeps.0);
        content = subst (λ (l : List ℕ). KeepsOthers data_at l old.content new.content) (sym e.chain) (keeps_on data_at chain (block ∷ []) old.content mid.content new.content p.content keeps.1);
        put = λ bytes has.
            let was : stored mid.content data_at chain ++ items ≡ bytes ++ piece = subst (λ (o : Option Begun). HasPut mid o (bytes ++ piece)) (begun_whole one f is full) (p.put bytes has) in
            subst (λ (o : Option Begun). HasPut new o (bytes ++ piece)) (sym (begun_even two (extended_begun one two block e) e.rest)) (append-nil (stored new.content data_at (draft_chain two)) ∙ all ∙ was);
      }
    where
      apart : times block (draft_chain one) ≡ 0 → (b : ℕ) → times b (draft_chain one) ≢ 0 → times b (block ∷ []) ≡ 0
      apart none b ne = times_there block b [] (λ e. ne (ap (λ (k : ℕ). times k (draft_chain one)) (sym e) ∙ none))

  -- it may be torn
  pub poured_torn : (piece : List ℕ) (before one two : Book) (block : ℕ) (r q : Result T E) (old mid new : Shown) → IsErr q → Fits 4096 one → Extends one two block → Writes (place data_at block) one.block.items r mid new → Poured piece before one old mid
      → (whole : List ℕ) → Pours whole q before two old new
  poured_torn piece before one two block r q old mid new err f e writes p whole =
      let keeps = writes_block block one.block.items r mid new f.block writes in
      let chain = draft_chain one in record {
        settled = subst (λ (l : List ℕ). KeepsOthers data_at l old.settled new.settled) (sym e.chain) (keeps_on data_at chain (block ∷ []) old.settled mid.settled new.settled p.settled keeps.0);
        content = subst (λ (l : List ℕ). KeepsOthers data_at l old.content new.content) (sym e.chain) (keeps_on data_at chain (block ∷ []) old.content mid.content new.content p.content keeps.1);
        put = λ bytes has. IfOk-from_err q (λ _. HasPut new (begun_of two) (bytes ++ whole)) err;
      }

pub poured_done : {T E : Type 0} (piece whole : List ℕ) (t : T) (before after : Book) (old new : Shown) → piece ≡ whole → Poured piece before after old new → Pours {T = T} {E = E} whole (Ok t) before after old new
poured_done piece whole t before after old new is p = record {
  settled = p.settled;
  content = p.content;
  put = λ bytes has. subst (λ (l : List ℕ). HasPut new (begun_of after) (bytes ++ l)) is (p.put bytes has);
}

pub put_joins : (one two : Book) (more : List ℕ) → IsSome one.draft → begun_of two ≡ joins (begun_of one) more → put_len (begun_of two) ≡ put_len (begun_of one) + length more
put_joins one two more is joined = let d = some_draft one.draft is in ap put_len joined ∙ by_begun (begun_of one) (begun_is one d.0 d.1)
  where
    by_begun : {b : Begun} (o : Option Begun) → o ≡ Some b → put_len (joins o more) ≡ put_len o + length more
    by_begun (Some b) e = omega (arith, length-append b.rest more)
    by_begun {b} None e = absurd (none_not b e)
      where
        none_not : (b : Begun) → ◌≡◌ {A = Option Begun} None (Some b) → ⊥
        none_not b e = cc

pub extended_len : (one two : Book) (block : ℕ) → Extends one two block → put_len (begun_of one) ≡ block_len * length (draft_chain one) + block_len → put_len (begun_of two) ≡ put_len (begun_of one)
extended_len one two block e full = omega (arith, e.rest, full, ap length e.chain, length-append (draft_chain one) (block ∷ []))
