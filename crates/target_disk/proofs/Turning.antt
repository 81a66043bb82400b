-- The chain of a commit becomes that of the image.
use Rattle.std.proofs.Common.{◌≡◌, ◌≢◌, ⊎_elim, ◌<◌, ◌≤◌, ◌+◌, ◌*◌, ◌^◌, ℕ, List, [], ◌∷◌, ◌++◌, Bool, true, ◌&&◌, Option, Some, None, length, get_or, leb, ltb, refl, sym, ◌∙◌, ap, subst, arith, append-nil, length-append}
use Rattle.std.proofs.lemmas.Bool.{cases_eq, le-leb, lt-ltb}
use Rattle.chain_blocks.specs.Chains.{Linked, Holds, IsTrail, IsChain, AreChains, block_len, joined, last_link, times}
use Rattle.chain_blocks.specs.Stored.{IsCount}
use Rattle.chain_blocks.proofs.Counting.{times-append, times_there}
use Rattle.chain_blocks.proofs.Found.{found_lists}
use Rattle.chain_blocks.proofs.Trails.{holds_swap}
use Rattle.target_disk.specs.Tables.{Table, Entry, block_count, ends_in, entry_in, image_most, table_bytes}
use Rattle.target_disk.specs.Draft.{put_len}
use Rattle.target_disk.specs.Consistent.{Fits, IsDraft, IsTaken, begun_of, draft_chain}
use Rattle.target_disk.specs.Steps.{Turns}
use Rattle.target_disk.specs.Store.{following}
use Rattle.target_disk.specs.declared.book.Book.{Book}
use Rattle.target_disk.specs.declared.book.Draft.{Draft}
use Rattle.target_disk.specs.declared.book.Ends.{Ends}
use Rattle.target_disk.proofs.Booked.{drafting, image_from}
use Rattle.target_disk.proofs.Judging.{entry_from_table, entry_ok, stands_for}
use Rattle.target_disk.proofs.RoundTrip.{length-table, table_back}

-- each link fits its four bytes
trail_links : (links : List ℕ) (at : ℕ) (xs : List ℕ) → length links ≤ last_link → IsTrail links at xs → (at ≤ last_link) × ((k : ℕ) → times k xs ≢ 0 → get_or links k last_link ≤ last_link)
trail_links links at [] few is = (omega arith, λ k ne. absurd (ne refl))
trail_links links at (x ∷ xs) few (same, lt, rest) =
    let more = trail_links links (get_or links x last_link) xs few rest in (
      omega arith,
      λ k ne. ⊎_elim
          (λ e. subst (λ (j : ℕ). get_or links j last_link ≤ last_link) (sym e) more.0)
          (λ differs. more.1 k (λ z. ne (times_there x k xs (λ e. differs (sym e)) ∙ z)))
          (cases_eq k x),
    )

chain_links : (links : List ℕ) (c : List ℕ) → length links ≤ last_link → IsChain links c → (k : ℕ) → times k c ≢ 0 → get_or links k last_link ≤ last_link
chain_links links [] few none = absurd none
chain_links links (b ∷ bs) few is = (trail_links links b (b ∷ bs) few is).1

chains_links : (links : List ℕ) (cs : List (List ℕ)) → length links ≤ last_link → AreChains links cs → (k : ℕ) → times k (joined cs) ≢ 0 → get_or links k last_link ≤ last_link
chains_links links [] few stand k ne = absurd (ne refl)
chains_links links (c ∷ cs) few (first, others) k ne = ⊎_elim
    (λ none. chains_links links cs few others k (λ z. ne (omega (arith, times-append k c (joined cs)))))
    (λ some. chain_links links c few first k some)
    (cases_eq (times k c) 0)

link_fits : (blocks : Linked) (free : List ℕ) (chains : List (List ℕ)) → Holds blocks free chains → (k : ℕ) → k < length blocks.links → get_or blocks.links k last_link ≤ last_link
link_fits blocks free chains h k lt = ⊎_elim
    (λ none. chains_links blocks.links chains h.few h.chains_stand k (λ z. absurd (omega (arith, h.inside k lt))))
    (λ some. (trail_links blocks.links blocks.free free h.few h.free_trail).1 k some)
    (cases_eq (times k free) 0)

-- the table of one chain reads back
pub entry_back : (blocks : Linked) (free : List ℕ) (generation len head : ℕ) (rest : List ℕ) → Holds blocks free ((head ∷ rest) ∷ []) → length blocks.links ≡ block_count → 1 ≤ generation → generation < 2 ^ 64 → len < 2 ^ 64 → len ≤ image_most → IsCount (length (head ∷ rest)) len
    → entry_in (table_bytes (record { generation = generation; len = len; head = head; free = blocks.free; links = blocks.links })) ≡ Some (record { generation = generation; len = len; chain = head ∷ rest })
entry_back blocks free generation len head rest h count positive small short most ends =
    let t : Table = record { generation = generation; len = len; head = head; free = blocks.free; links = blocks.links } in
    let inside : head < length blocks.links = h.chains_stand.0.1 in
    let few = h.few in
    let first : blocks.free ≤ last_link = (trail_links blocks.links blocks.free free h.few h.free_trail).0 in
    let back = table_back t small short (omega arith) (omega arith) count (λ k lt. omega (arith, link_fits blocks free ((head ∷ rest) ∷ []) h k (omega arith))) in
    let all : joined ((head ∷ rest) ∷ []) ≡ head ∷ rest = append-nil (head ∷ rest) in
    let within = ends.most in
    let near = ends.least in
    let does_end : ends_in len (length (joined ((head ∷ rest) ∷ []))) ≡ true =
    ap (λ (n : ℕ). ends_in len n) (ap length all)
    ∙ and_both (leb len (block_len * length (head ∷ rest))) (ltb (block_len * length (head ∷ rest)) (len + block_len)) (leb len image_most) (le-leb len (block_len * length (head ∷ rest)) within) (lt-ltb (block_len * length (head ∷ rest)) (len + block_len) near) (le-leb len image_most most) in
    entry_from_table (table_bytes t) t (Some (stands_for t (joined ((head ∷ rest) ∷ [])))) back
    (entry_ok t (record { free = free; chains = (head ∷ rest) ∷ [] }) positive (found_lists blocks free ((head ∷ rest) ∷ []) h) does_end)
    ∙ ap (λ (c : List ℕ). Some (stands_for t c)) all
  where
    and_both : (a b c : Bool) → a ≡ true → b ≡ true → c ≡ true → (a && (b && c)) ≡ true
    and_both a b c p q r = ap (λ (x : Bool). x && (b && c)) p ∙ ap (λ (x : Bool). x && c) q ∙ r

-- the chain of the commit before that of the image
pub turning : (book : Book) (d : Draft) (e : Ends) (f : Fits 4095 book) → book.draft ≡ Some d → d.ends ≡ Some e → (rest : List ℕ) × (draft_chain book ≡ e.head ∷ rest) × Holds book.blocks f.free ((book.head ∷ f.behind) ∷ ((e.head ∷ rest) ∷ []))
turning book d e f is ends =
    let g = drafting 4095 book d f (omega arith) is in
    let t : IsTaken (Some e) f.taken d.full = subst (λ (o : Option Ends). IsTaken o f.taken d.full) ends g.ends in
    let image = book.head ∷ f.behind in
    (t.1, g.chain ∙ ap joined t.3 ∙ append-nil (e.head ∷ t.1), holds_swap book.blocks f.free (e.head ∷ t.1) image [] (subst (λ (l : List (List ℕ)). Holds book.blocks f.free (l ++ image ∷ [])) t.3 f.holds))

pub same_count : (old new : Linked) (free image chain : List ℕ) → Holds old free (image ∷ (chain ∷ [])) → Holds new (image ++ free) (chain ∷ []) → length new.links ≡ length old.links
same_count old new free image chain h now =
    let was = h.size in
    let size = now.size in
    omega (arith, length-append image free, length-append image (chain ++ []))

pub turns : (old new : Book) (d : Draft) (e : Ends) (blocks : Linked) (generation len : ℕ) (f : Fits 4095 old) → old.draft ≡ Some d → d.ends ≡ Some e
    → ((free behind : List ℕ) (chains : List (List ℕ)) → Holds old.blocks free ((old.head ∷ behind) ∷ chains) → Holds blocks ((old.head ∷ behind) ++ free) chains)
    → put_len (begun_of old) ≡ block_len * length (draft_chain old) → IsCount (length (draft_chain old)) len → len < 2 ^ 64
    → generation ≡ following old.generation → new.table.items ≡ table_bytes (record { generation = generation; len = len; head = e.head; free = blocks.free; links = blocks.links })
    → new.blocks ≡ blocks → new.head ≡ e.head → new.generation ≡ generation → new.block.items ≡ old.block.items → new.draft ≡ None → Turns old new len
turns old new d e blocks generation len f is ends gives whole count short next table same_blocks same_head same_generation same_block none =
    let g = drafting 4095 old d f (omega arith) is in
    let t = turning old d e f is ends in
    let image = old.head ∷ f.behind in
    let held : Holds blocks (image ++ f.free) ((e.head ∷ t.0) ∷ []) = gives f.free f.behind ((e.head ∷ t.0) ∷ []) t.2 in
    let links : length blocks.links ≡ block_count = same_count old.blocks blocks f.free image (e.head ∷ t.0) t.2 held ∙ f.count in
    let now : Holds new.blocks (image ++ f.free) ((new.head ∷ t.0) ∷ []) =
    subst (λ (h : ℕ). Holds new.blocks (image ++ f.free) ((h ∷ t.0) ∷ [])) (sym same_head) (subst (λ (b : Linked). Holds b (image ++ f.free) ((e.head ∷ t.0) ∷ [])) (sym same_blocks) held) in
    let all = g.all in
    let size = g.size in
    let most = count.most in
    let positive = f.positive in
    let following_fits : (1 ≤ generation) × (generation < 2 ^ 64) = (omega arith, omega arith) in
    let chain_len : length (draft_chain old) ≡ length (new.head ∷ t.0) = ap length t.1 in
    let written : Table = record { generation = generation; len = len; head = e.head; free = blocks.free; links = blocks.links } in
    let fits : Fits 4095 new = record {
      free = image ++ f.free;
      behind = t.0;
      taken = [];
      holds = now;
      draft = subst (λ (o : Option Draft). IsDraft 4095 o []) (sym none) refl;
      count = ap (λ (b : Linked). length b.links) same_blocks ∙ links;
      short = omega arith;
      table = ap length table ∙ length-table written links;
      block = ap length same_block ∙ f.block;
      positive = omega (arith, following_fits.0);
    } in
    record {
      fits = fits;
      draft = none;
      generation = same_generation ∙ next;
      chain = image_from 4095 new fits ∙ ap (λ (h : ℕ). h ∷ t.0) same_head ∙ sym t.1;
      table = ap entry_in table
          ∙ entry_back blocks (image ++ f.free) generation len e.head t.0 held links following_fits.0 following_fits.1 short (omega arith) (subst (λ (c : List ℕ). IsCount (length c) len) t.1 count)
          ∙ ap (λ (c : List ℕ). let found : Entry = record { generation = generation; len = len; chain = c } in Some found) (sym t.1)
          ∙ ap (λ (n : ℕ). let found : Entry = record { generation = n; len = len; chain = draft_chain old } in Some found) next;
    }
