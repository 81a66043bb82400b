-- What a store keeps in memory, by the lists that its blocks hold.
use Rattle.std.proofs.Common.{◌≡◌, ◌<◌, ◌≤◌, ◌+◌, ◌*◌, ℕ, zero, suc, List, [], ◌∷◌, ◌++◌, Option, Some, None, length, get_or, eqb, refl, sym, ◌∙◌, ap, subst, arith, append-nil, length-append}
use Rattle.std.proofs.lemmas.Bool.{cond-true, cond-false, eq-eqb, ne_eqb}
use Rattle.std.proofs.lemmas.List.{length-take-le}
use Rattle.chain_blocks.specs.Chains.{Linked, Holds, IsTrail, IsChain, AreChains, block_len, joined, last_link, times}
use Rattle.chain_blocks.proofs.Counting.{joined-append, times-append, times_here}
use Rattle.chain_blocks.proofs.Found.{at_most_once}
use Rattle.target_disk.specs.Tables.{image_most, block_count}
use Rattle.target_disk.specs.Draft.{put_len}
use Rattle.target_disk.specs.Consistent.{Fits, IsDraft, IsTaken, begun_from, begun_of, draft_chain, full_blocks, full_of, image_chain, trail_from}
use Rattle.target_disk.specs.Steps.{Extends, Lengthens}
use Rattle.target_disk.specs.declared.book.Book.{Book}
use Rattle.target_disk.specs.declared.book.Draft.{Draft}
use Rattle.target_disk.specs.declared.book.Ends.{Ends}

-- a trail is found by its first block
pub trail_of : (links : List ℕ) (n at : ℕ) (xs : List ℕ) → length links ≤ last_link → length xs ≤ n → IsTrail links at xs → trail_from n links at ≡ xs
trail_of links zero at [] few le is = refl
trail_of links zero at (x ∷ xs) few le is = absurd (omega arith)
trail_of links (suc n) at [] few le is = cond-true (eqb at last_link) [] (at ∷ trail_from n links (get_or links at last_link)) (eq-eqb at last_link is)
trail_of links (suc n) at (x ∷ xs) few le (same, lt, rest) =
    cond-false (eqb at last_link) [] (at ∷ trail_from n links (get_or links at last_link)) (ne_eqb at last_link (λ e. omega arith))
    ∙ ap (λ (j : ℕ). j ∷ trail_from n links (get_or links j last_link)) same
    ∙ ap (λ (l : List ℕ). x ∷ l) (trail_of links n (get_or links x last_link) xs few (omega arith) rest)

pub chain_at : (links : List ℕ) (before : List (List ℕ)) (c : List ℕ) (after : List (List ℕ)) → AreChains links (before ++ c ∷ after) → IsChain links c
chain_at links [] c after (first, rest) = first
chain_at links (b ∷ before) c after (first, rest) = chain_at links before c after rest

length_at : (before : List (List ℕ)) (c : List ℕ) (after : List (List ℕ)) → length c ≤ length (joined (before ++ c ∷ after))
length_at [] c after = omega (arith, length-append c (joined after))
length_at (b ∷ before) c after = omega (arith, length-append b (joined (before ++ c ∷ after)), length_at before c after)

pub held_chain : (blocks : Linked) (free : List ℕ) (before : List (List ℕ)) (x : ℕ) (xs : List ℕ) (after : List (List ℕ)) → Holds blocks free (before ++ (x ∷ xs) ∷ after) → trail_from (length blocks.links) blocks.links x ≡ x ∷ xs
held_chain blocks free before x xs after h =
    let size = h.size in
    trail_of blocks.links (length blocks.links) x (x ∷ xs) h.few (omega (arith, length_at before (x ∷ xs) after)) (chain_at blocks.links before (x ∷ xs) after h.chains_stand)

pub image_from : (most : ℕ) (book : Book) (f : Fits most book) → image_chain book ≡ book.head ∷ f.behind
image_from most book f = held_chain book.blocks f.free f.taken book.head f.behind [] f.holds

-- what was taken for a commit
full_from : (blocks : Linked) (free : List ℕ) (rest taken : List (List ℕ)) (ends : Option Ends) (full : ℕ) → IsTaken ends taken full → Holds blocks free (taken ++ rest) → full_blocks blocks.links ends ≡ joined taken
full_from blocks free rest taken None full (none, z) h = sym (ap joined none)
full_from blocks free rest taken (Some e) full (before, behind, split, is, count) h =
    held_chain blocks free [] e.head behind rest (subst (λ (l : List (List ℕ)). Holds blocks free (l ++ rest)) is h) ∙ sym (append-nil (e.head ∷ behind)) ∙ sym (ap joined is)

pub taken_count : (ends : Option Ends) (taken : List (List ℕ)) (full : ℕ) → IsTaken ends taken full → length (joined taken) ≡ full
taken_count None taken full (none, z) = ap (λ (l : List (List ℕ)). length (joined l)) none ∙ sym z
taken_count (Some e) taken full (before, behind, split, is, count) = ap (λ (l : List (List ℕ)). length (joined l)) is ∙ ap length (append-nil (e.head ∷ behind)) ∙ sym count

pub taken_from : (blocks : Linked) (free : List ℕ) (rest taken : List (List ℕ)) (most : ℕ) (draft : Option Draft) → IsDraft most draft taken → Holds blocks free (taken ++ rest) → full_of blocks.links draft ≡ joined taken
taken_from blocks free rest taken most None is h = sym (ap joined is)
taken_from blocks free rest taken most (Some d) (ends, fill, all) h = full_from blocks free rest taken d.ends d.full ends h

pub draft_from : (most : ℕ) (book : Book) (f : Fits most book) → draft_chain book ≡ joined f.taken
draft_from most book f = taken_from book.blocks f.free ((book.head ∷ f.behind) ∷ []) f.taken most book.draft f.draft f.holds

-- a commit that was begun
pub record Drafting (most : ℕ) (book : Book) (d : Draft) (taken : List (List ℕ)) : Type 0 where
  pub ends : IsTaken d.ends taken d.full
  pub fill : d.fill ≤ most
  pub all : block_len * d.full + d.fill ≤ image_most
  pub count : length (joined taken) ≡ d.full
  pub size : put_len (begun_of book) ≡ block_len * d.full + d.fill
  pub chain : draft_chain book ≡ joined taken

pub drafting : (most : ℕ) (book : Book) (d : Draft) (f : Fits most book) → most ≤ block_len → book.draft ≡ Some d → Drafting most book d f.taken
drafting most book d f le is =
    let now : IsDraft most (Some d) f.taken = subst (λ (o : Option Draft). IsDraft most o f.taken) is f.draft in
    let fill : d.fill ≤ most = now.1 in
    let count = taken_count d.ends f.taken d.full now.0 in
    let block = f.block in
    let chain = full_from book.blocks f.free ((book.head ∷ f.behind) ∷ []) f.taken d.ends d.full now.0 f.holds in
    record {
      ends = now.0;
      fill = fill;
      all = now.2;
      count = count;
      size = ap (λ (o : Option Draft). put_len (begun_from book.blocks.links book.block.items o)) is ∙ omega (arith, ap length chain, length-take-le d.fill book.block.items (omega arith));
      chain = draft_from most book f;
    }

-- how many blocks there are in all
pub in_all : (most : ℕ) (book : Book) (f : Fits most book) → length f.free + length (joined f.taken) + length (book.head ∷ f.behind) ≡ block_count
in_all most book f =
    let size = f.holds.size in
    let count = f.count in
    omega (arith, ap length (joined-append f.taken ((book.head ∷ f.behind) ∷ [])), length-append (joined f.taken) ((book.head ∷ f.behind) ++ []), length-append (book.head ∷ f.behind) [])

-- a block is free
pub room_for_one : (book : Book) (d : Draft) (f : Fits 4096 book) → book.draft ≡ Some d → block_len * length (draft_chain book) < put_len (begun_of book) → 0 < length f.free
room_for_one book d f is some =
    let g = drafting 4096 book d f (omega arith) is in
    let all = g.all in
    let count = g.count in
    let size = g.size in
    let short = f.short in
    omega (arith, ap length g.chain, in_all 4096 book f)

pub cons_of : (xs : List ℕ) → 0 < length xs → (b : ℕ) × (bs : List ℕ) × (xs ≡ b ∷ bs)
cons_of [] lt = absurd (omega arith)
cons_of (b ∷ bs) lt = (b, bs, refl)

-- how often a block stands in the lists
pub counted_in : (most : ℕ) (book : Book) (f : Fits most book) (k : ℕ) → times k f.free + times k (joined f.taken) + times k (book.head ∷ f.behind) ≤ 1
counted_in most book f k = omega (arith, at_most_once book.blocks f.free (f.taken ++ (book.head ∷ f.behind) ∷ []) f.holds k, ap (times k) (joined-append f.taken ((book.head ∷ f.behind) ∷ [])), times-append k (joined f.taken) ((book.head ∷ f.behind) ++ []), times-append k (book.head ∷ f.behind) [])

abbrev pub extended : Book → Linked → Draft → Ends → Book
extended old blocks d ends = record { blocks = blocks; head = old.head; generation = old.generation; table = old.table; block = old.block; draft = Some (record { ends = Some ends; full = d.full + 1; fill = 0 }) }

pub extends : (old : Book) (blocks : Linked) (d : Draft) (ends : Ends) (f : Fits 4096 old) → old.draft ≡ Some d → block_len * length (draft_chain old) < put_len (begun_of old)
    → ((block : ℕ) (free : List ℕ) (taken rest : List (List ℕ)) (full : ℕ) → IsTaken d.ends taken full → Holds old.blocks (block ∷ free) (taken ++ rest) → Lengthens block free taken rest full ends blocks)
    → Extends old (extended old blocks d ends) ends.tail
extends old blocks d ends f is some lengthens =
    let g = drafting 4096 old d f (omega arith) is in
    let one = cons_of f.free (room_for_one old d f is some) in
    let image = old.head ∷ f.behind in
    let before : Holds old.blocks (one.0 ∷ one.1) (f.taken ++ image ∷ []) = subst (λ (l : List ℕ). Holds old.blocks l (f.taken ++ image ∷ [])) one.2 f.holds in
    let l = lengthens one.0 one.1 f.taken (image ∷ []) d.full g.ends before in
    let new = extended old blocks d ends in
    let chain = joined f.taken ++ one.0 ∷ [] in
    let here = times_here one.0 one.1 in
    let once = counted_in 4096 old f one.0 in
    let inside : one.0 < length old.blocks.links = before.free_trail.1 in
    let count = f.count in
    let size = l.holds.size in
    let was = before.size in
    let all = g.all in
    let full = g.count in
    let put = g.size in
    let fits : Fits 4095 new = record {
      free = one.1;
      behind = f.behind;
      taken = chain ∷ [];
      holds = l.holds;
      draft = (l.chain, omega arith, omega (arith, ap length g.chain));
      count = omega (arith, length-append chain (image ++ []), length-append (joined f.taken) (one.0 ∷ []), ap length (joined-append f.taken (image ∷ [])), length-append (joined f.taken) (image ++ []));
      short = f.short;
      table = f.table;
      block = f.block;
      positive = f.positive;
    } in
    record {
      fits = fits;
      keeps = record { chain = image_from 4095 new fits ∙ sym (image_from 4096 old f); head = refl; generation = refl };
      chain = draft_from 4095 new fits ∙ append-nil chain ∙ ap (λ (c : List ℕ). c ++ one.0 ∷ []) (sym g.chain) ∙ ap (λ (j : ℕ). draft_chain old ++ j ∷ []) (sym l.tail);
      rest = omega arith;
      bytes = refl;
      inside = subst (λ (j : ℕ). j < block_count) (sym l.tail) (omega arith);
      apart = subst (λ (j : ℕ). times j (image_chain old) ≡ 0) (sym l.tail) (omega (arith, ap (times one.0) (image_from 4096 old f), ap (times one.0) one.2));
      once = subst (λ (j : ℕ). times j (draft_chain old) ≡ 0) (sym l.tail) (omega (arith, ap (times one.0) g.chain, ap (times one.0) one.2));
    }

-- what was taken is given back
pub given_taken : (most : ℕ) (draft : Option Draft) (d : Draft) (e : Ends) (old new : Linked) (free : List ℕ) (taken rest : List (List ℕ)) → draft ≡ Some d → d.ends ≡ Some e → IsDraft most draft taken → Holds old free (taken ++ rest)
    → ((free behind : List ℕ) (chains : List (List ℕ)) → Holds old free ((e.head ∷ behind) ∷ chains) → Holds new ((e.head ∷ behind) ++ free) chains)
    → (left : List ℕ) × Holds new left rest × (length new.links ≡ length old.links)
given_taken most draft d e old new free taken rest is ends drafted h gives =
    let begun : IsDraft most (Some d) taken = subst (λ (o : Option Draft). IsDraft most o taken) is drafted in
    let t : IsTaken (Some e) taken d.full = subst (λ (o : Option Ends). IsTaken o taken d.full) ends begun.0 in
    let chain = e.head ∷ t.1 in
    let held : Holds old free (chain ∷ rest) = subst (λ (l : List (List ℕ)). Holds old free (l ++ rest)) t.3 h in
    let now = gives free t.1 rest held in
    let was = held.size in
    let size = now.size in
    (chain ++ free, now, omega (arith, length-append chain free, length-append chain (joined rest)))

abbrev pub given_up : Book → Linked → Book
given_up old blocks = record { blocks = blocks; head = old.head; generation = old.generation; table = old.table; block = old.block; draft = None }

pub gave_up : (old : Book) (blocks : Linked) (f : Fits 4095 old) → (left : List ℕ) × Holds blocks left ((old.head ∷ f.behind) ∷ []) × (length blocks.links ≡ length old.blocks.links) → Fits 4095 (given_up old blocks)
gave_up old blocks f left = record {
  free = left.0;
  behind = f.behind;
  taken = [];
  holds = left.1;
  draft = refl;
  count = left.2 ∙ f.count;
  short = f.short;
  table = f.table;
  block = f.block;
  positive = f.positive;
}

pub gave_up_keeps : (old : Book) (blocks : Linked) (f : Fits 4095 old) → (left : List ℕ) × Holds blocks left ((old.head ∷ f.behind) ∷ []) × (length blocks.links ≡ length old.blocks.links) → image_chain (given_up old blocks) ≡ image_chain old
gave_up_keeps old blocks f left = held_chain blocks left.0 [] old.head f.behind [] left.1 ∙ sym (image_from 4095 old f)
