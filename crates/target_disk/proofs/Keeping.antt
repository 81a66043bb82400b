-- Blocks that are written for a commit lie apart from those of the image.
use Rattle.std.specs.Prelude.{IsTrue}
use Rattle.std.proofs.Common.{◌≡◌, ◌≢◌, ◌⊎◌, inl, inr, ◌<◌, ◌≤◌, ◌+◌, ◌*◌, ℕ, List, [], ◌∷◌, ◌++◌, Option, Some, None, false, length, take, drop, refl, sym, ◌∙◌, ap, subst, arith, append-nil, length-append, length-take, length-drop}
use Rattle.std.proofs.lemmas.Bool.{cases_lt}
use Rattle.outside.specs.Disk.{Shown, part, settles}
use Rattle.chain_blocks.specs.Chains.{block_len, times, joined}
use Rattle.chain_blocks.specs.Stored.{KeepsOthers, place, stored}
use Rattle.chain_blocks.proofs.Counting.{times-append, times_here, joined-append}
use Rattle.chain_blocks.proofs.Found.{at_most_once}
use Rattle.chain_blocks.proofs.Spans.{image_part, reads_back, stored_others}
use Rattle.target_disk.specs.Tables.{Saved, entry, entry_in, data_at}
use Rattle.target_disk.specs.Draft.{put_len}
use Rattle.target_disk.specs.Store.{HasPut, OpensAs, Stands}
use Rattle.target_disk.specs.Steps.{KeepsImage}
use Rattle.target_disk.specs.Consistent.{Fits, Knows, IsDraft, begun_of, begun_from, draft_chain, full_blocks, full_of, image_chain}
use Rattle.target_disk.specs.declared.book.Book.{Book}
use Rattle.target_disk.specs.declared.book.Draft.{Draft}
use Rattle.target_disk.proofs.Chained.{image_is, full_taken}
use Rattle.target_disk.proofs.Opening.{entry_from, entry_front, gate_front, table_front, opened_from, opens_apart}

some_same : {A : Type 0} (a b : A) → Some a ≡ Some b → a ≡ b
some_same a b e = cc

drafted : (most : ℕ) (book : Book) → (f : Fits most book) → (k : ℕ) → times k (draft_chain book) ≤ times k (joined f.taken)
drafted most book f k = by_draft book.draft refl
  where
    by_draft : (o : Option Draft) → book.draft ≡ o → times k (full_of book.blocks.links o) ≤ times k (joined f.taken)
    by_draft None is = omega arith
    by_draft (Some d) is = omega (arith, ap (times k) ((full_taken book.blocks f.free d.ends f.taken ((book.head ∷ f.behind) ∷ []) d.full f.holds (subst (λ (o : Option Draft). IsDraft most o f.taken) is f.draft).0).0))

-- no block is both in the image's chain and taken for a commit
pub fits_apart : (most : ℕ) (book : Book) → Fits most book → (k : ℕ) → times k (image_chain book) ≢ 0 → times k (draft_chain book) ≡ 0
fits_apart most book f k ne = apart (times k (image_chain book)) (times k (draft_chain book)) ne (omega (
  arith,
  at_most_once book.blocks f.free (f.taken ++ (book.head ∷ f.behind) ∷ []) f.holds k,
  ap (times k) (joined-append f.taken ((book.head ∷ f.behind) ∷ []) ∙ ap (λ (l : List ℕ). joined f.taken ++ l) (append-nil (book.head ∷ f.behind))),
  times-append k (joined f.taken) (book.head ∷ f.behind),
  ap (times k) (image_is most book f),
  drafted most book f k,
))
  where
    apart : (i d : ℕ) → i ≢ 0 → i + d ≤ 1 → d ≡ 0
    apart i d ne le = omega arith

-- the blocks that are taken for a commit are blocks of the disk
pub draft_inside : (most : ℕ) (book : Book) → Fits most book → (k : ℕ) → times k (draft_chain book) ≢ 0 → k < 16000
draft_inside most book f k ne = by_cases (cases_lt k (length book.blocks.links))
  where
    by_cases : (k < length book.blocks.links) ⊎ (length book.blocks.links ≤ k) → k < 16000
    by_cases (inl lt) = omega (arith, f.count)
    by_cases (inr le) = absurd (ne (none (times k (draft_chain book)) (omega (
      arith,
      f.holds.outside k le,
      ap (times k) (joined-append f.taken ((book.head ∷ f.behind) ∷ [])),
      times-append k (joined f.taken) (joined ((book.head ∷ f.behind) ∷ [])),
      drafted most book f k,
    ))))
      where
        none : (n : ℕ) → n ≤ 0 → n ≡ 0
        none n le = omega arith

pub stored_len : {A : Type 0} (xs : List A) (at : ℕ) (chain : List ℕ) → ((b : ℕ) → times b chain ≢ 0 → place at b + block_len ≤ length xs) → length (stored xs at chain) ≡ block_len * length chain
stored_len xs at [] inside = omega arith
stored_len {A} xs at (b ∷ bs) inside =
    let here : place at b + block_len ≤ length xs = inside b (λ e. omega (arith, times_here b bs)) in
    let rest = stored_len xs at bs (λ k ne. inside k (λ e. ne (omega arith))) in
    omega (arith, here, rest, length-append (part (place at b) block_len xs) (stored xs at bs), length-take block_len (drop (place at b) xs), length-drop (place at b) xs)

-- how many bytes were put
pub put_size : (most : ℕ) (book : Book) (disk : Shown) (bytes : List ℕ) → Fits most book → length disk.content ≡ 67108864 → HasPut disk (begun_of book) bytes → length bytes ≡ put_len (begun_of book)
put_size most book disk bytes f size has = by_draft book.draft refl has
  where
    by_draft : (o : Option Draft) → book.draft ≡ o → HasPut disk (begun_from book.blocks.links book.block.items o) bytes → length bytes ≡ put_len (begun_from book.blocks.links book.block.items o)
    by_draft None is none = absurd none
    by_draft (Some d) is e =
        let chain = full_blocks book.blocks.links d.ends in
        let len = stored_len disk.content data_at chain (λ b ne. omega (arith, draft_inside most book f b (λ z. ne (ap (λ (o : Option Draft). times b (full_of book.blocks.links o)) (sym is) ∙ z)), size)) in
        omega (arith, ap length e, length-append (stored disk.content data_at chain) (take d.fill book.block.items), len)

-- the table that a store knows is the one that opens
pub knows_entry : (book : Book) (content : List ℕ) → (k : Knows book content) → entry content ≡ Some k.found
knows_entry book content k = entry_from false content k.found k.shut k.home

pub stands_found : (book : Book) (disk : Shown) (s : Saved) → (k : Knows book disk.content) → (st : Stands disk s) → st.found ≡ k.found
stands_found book disk s k st = some_same st.found k.found (sym st.named ∙ knows_entry book disk.content k)

-- blocks changed that lie apart from those of the image
module _ (old new : Shown) (chain : List ℕ) where
  pub kept_opens : (s : Saved) → (st : Stands old s) → ((b : ℕ) → times b st.found.chain ≢ 0 → times b chain ≡ 0) → KeepsOthers data_at chain old.settled new.settled → OpensAs new s
  kept_opens s st apart settled = λ image here.
      let front : take data_at image ≡ take data_at old.content = image_part new.settled image (take data_at old.content) 0 data_at (settled.before ∙ st.tables) here in
      let blocks : stored image data_at st.found.chain ≡ stored old.content data_at st.found.chain = reads_back new.settled image (stored old.content data_at st.found.chain) data_at st.found.chain (stored_others data_at chain st.found.chain old.settled new.settled apart settled ∙ st.blocks) here in
      opens_apart old.content image st.found front st.named blocks ∙ sym (opened_from old.content st.found st.named) ∙ st.opens

  pub kept_stands : (s : Saved) → (st : Stands old s) → ((b : ℕ) → times b st.found.chain ≢ 0 → times b chain ≡ 0) → KeepsOthers data_at chain old.settled new.settled → KeepsOthers data_at chain old.content new.content → IsTrue new.honest → new.failed ≡ false → Stands new s
  kept_stands s st apart settled content honest works =
      let same : stored new.content data_at st.found.chain ≡ stored old.content data_at st.found.chain = stored_others data_at chain st.found.chain old.content new.content apart content in record {
        honest = honest;
        works = works;
        found = st.found;
        named = entry_front old.content new.content content.before ∙ st.named;
        tables = settled.before ∙ st.tables ∙ ap settles (sym content.before);
        blocks = stored_others data_at chain st.found.chain old.settled new.settled apart settled ∙ st.blocks ∙ ap settles (sym same);
        opens = opens_apart old.content new.content st.found content.before st.named same ∙ sym (opened_from old.content st.found st.named) ∙ st.opens;
      }

-- what is known of the tables stays so, where blocks alone changed
pub knows_written : (one two : Book) (old new : List ℕ) → take data_at new ≡ take data_at old → KeepsImage one two → Knows one old → Knows two new
knows_written one two old new front keeps k = record {
  shut = gate_front old new front ∙ k.shut;
  found = k.found;
  home = ap entry_in (table_front false old new front) ∙ k.home;
  generation = k.generation ∙ sym keeps.generation;
  chain = k.chain ∙ sym keeps.chain;
}
