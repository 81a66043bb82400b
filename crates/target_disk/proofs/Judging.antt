-- What a table's bytes stand for, by the links that they have.
use Rattle.std.proofs.Common.{◌≡◌, ◌≢◌, ⊎_elim, ◌<◌, ◌≤◌, ◌+◌, ◌*◌, ℕ, zero, suc, List, [], ◌∷◌, ◌++◌, Bool, true, false, cond, ◌&&◌, Option, Some, None, length, get_or, take, drop, eqb, leb, ltb, refl, sym, ◌∙◌, ap, subst, arith, append-nil, append_assoc}
use Rattle.std.specs.Prelude.{Result, Ok, Err}
use Rattle.std.proofs.lemmas.Bool.{leb-true, ltb-true, false≢true, cases_eq, cond-true, cond-false, eq-eqb, le-leb, lt-leb}
use Rattle.std.specs.Int.{w32, from_le_bytes}
use Rattle.outside.specs.Disk.{part}
use Rattle.chain_blocks.specs.Chains.{Linked, Holds, joined, last_link, block_len}
use Rattle.chain_blocks.specs.Marks.{IsJudged}
use Rattle.chain_blocks.specs.Walk.{Judged, judged, met, walk, walk_heads, then_ok, behind, first_lost}
use Rattle.chain_blocks.specs.declared.blocks.ChainFault.{ChainFault}
use Rattle.chain_blocks.specs.declared.blocks.ChainFault.TheVariants.{OutOfRange}
use Rattle.chain_blocks.proofs.Marking.{walk_end, walk_fault, walk_more, walk_head, walk_no_head, judged_heads, judged_free, judged_lost}
use Rattle.target_disk.specs.Parts.{table_of}
use Rattle.target_disk.specs.Consistent.{Fits, IsDraft}
use Rattle.target_disk.specs.Steps.{IsBook}
use Rattle.target_disk.specs.declared.table.TableParts.{TableParts}
use Rattle.target_disk.specs.declared.book.Book.{Book}
use Rattle.target_disk.specs.declared.book.Draft.{Draft}
use Rattle.target_disk.proofs.Booked.{image_from}
use Rattle.target_disk.specs.Tables.{Table, table_len, Entry, block_count, ends_in, entry_in, entry_of, if_chained, if_table, image_most, magic, table_in, words}

-- Err is not Ok
err_not : {A : Type 0} (fault : ChainFault) (a : A) → ◌≡◌ {A = Result A ChainFault} (Err fault) (Ok a) → ⊥
err_not fault a e = cc

ok_same : {A : Type 0} (a b : A) → ◌≡◌ {A = Result A ChainFault} (Ok a) (Ok b) → a ≡ b
ok_same a b e = cc

-- a walk goes on behind what it has
walk_front : (n : ℕ) (links seen here : List ℕ) (at : ℕ) (out : List ℕ) → walk n links seen here at ≡ Ok out → (rest : List ℕ) × (out ≡ here ++ rest)
unfolding walk
walk_front zero links seen here at out is = ([], sym (ok_same here out is) ∙ sym (append-nil here))
walk_front (suc n) links seen here at out is = ⊎_elim
    (λ end. ([], sym (ok_same here out (sym (walk_end links seen here at n end) ∙ is)) ∙ sym (append-nil here)))
    (λ ne. by_met (λ more. walk_front n links seen (here ++ at ∷ []) (get_or links at last_link) out more) ne (met (length links) seen here at) refl)
    (cases_eq at last_link)
  where
    by_met : (walk n links seen (here ++ at ∷ []) (get_or links at last_link) ≡ Ok out → (rest : List ℕ) × (out ≡ (here ++ at ∷ []) ++ rest)) → at ≢ last_link → (o : Option ChainFault) → met (length links) seen here at ≡ o → (rest : List ℕ) × (out ≡ here ++ rest)
    by_met further ne (Some fault) e = absurd (err_not fault out (sym (walk_fault links seen here at n fault ne e) ∙ is))
    by_met further ne None e =
        let more = further (sym (walk_more links seen here at n ne e) ∙ is) in
        (at ∷ more.0, more.1 ∙ append_assoc here (at ∷ []) more.0)

-- the walk from a block that isn't the end
walk_first : (n : ℕ) (links : List ℕ) (head : ℕ) (out : List ℕ) → head ≢ last_link → walk (suc n) links [] [] head ≡ Ok out → (rest : List ℕ) × (out ≡ head ∷ rest)
walk_first n links head out ne is = by_met (met (length links) [] [] head) refl
  where
    by_met : (o : Option ChainFault) → met (length links) [] [] head ≡ o → (rest : List ℕ) × (out ≡ head ∷ rest)
    by_met (Some fault) e = absurd (err_not fault out (sym (walk_fault links [] [] head n fault ne e) ∙ is))
    by_met None e = walk_front n links [] (head ∷ []) (get_or links head last_link) out (sym (walk_more links [] [] head n ne e) ∙ is)

heads_end : (links : List ℕ) (head : ℕ) → head ≡ last_link → walk_heads links [] (head ∷ []) ≡ Err (OutOfRange head)
unfolding walk_heads
heads_end links head is = cond-true (eqb head last_link) (Err (OutOfRange head)) (then_ok (walk (suc (length links)) links [] [] head) (λ chain. behind (chain ∷ []) (walk_heads links ([] ++ chain) []))) (eq-eqb head last_link is)

one_walked : (links : List ℕ) (head : ℕ) (chains : List (List ℕ)) → walk_heads links [] (head ∷ []) ≡ Ok chains → (rest : List ℕ) × (chains ≡ (head ∷ rest) ∷ [])
one_walked links head chains is = ⊎_elim
    (λ end. absurd (err_not (OutOfRange head) chains (sym (heads_end links head end) ∙ is)))
    (λ ne. by_walk ne (walk (suc (length links)) links [] [] head) refl)
    (cases_eq head last_link)
  where
    by_walk : head ≢ last_link → (r : Result (List ℕ) ChainFault) → walk (suc (length links)) links [] [] head ≡ r → (rest : List ℕ) × (chains ≡ (head ∷ rest) ∷ [])
    by_walk ne (Err fault) e = absurd (err_not fault chains (sym (ap (λ (r : Result (List ℕ) ChainFault). then_ok r (λ chain. behind (chain ∷ []) (walk_heads links ([] ++ chain) []))) e) ∙ sym (walk_head links [] head [] ne) ∙ is))
    by_walk ne (Ok chain) e =
        let first = walk_first (length links) links head chain ne e in
        let all : chain ∷ [] ≡ chains = ok_same (chain ∷ []) chains
        (sym (ap (behind (chain ∷ [])) (walk_no_head links ([] ++ chain))) ∙ sym (ap (λ (r : Result (List ℕ) ChainFault). then_ok r (λ c. behind (c ∷ []) (walk_heads links ([] ++ c) []))) e) ∙ sym (walk_head links [] head [] ne) ∙ is) in
        (first.0, sym all ∙ ap (λ (l : List ℕ). l ∷ []) first.1)

-- the chain of one head
pub one_chain : (links : List ℕ) (head free : ℕ) (found : Judged) → judged links (head ∷ []) free ≡ Ok found → (rest : List ℕ) × (found.chains ≡ (head ∷ rest) ∷ [])
one_chain links head free found is = by_heads (walk_heads links [] (head ∷ [])) refl
  where
    by_lost : (chains : List (List ℕ)) → walk_heads links [] (head ∷ []) ≡ Ok chains → (frees : List ℕ) → walk (suc (length links)) links (joined chains) [] free ≡ Ok frees → (o : Option ℕ) → first_lost (length links) 0 (joined chains ++ frees) ≡ o → found.chains ≡ chains
    by_lost chains w frees f None l = ap (λ (j : Judged). j.chains) (sym (ok_same (record { free = frees; chains = chains }) found (sym (judged_lost links (head ∷ []) free chains w frees None f l) ∙ is)))
    by_lost chains w frees f (Some block) l = absurd (err_not _ found (sym (judged_lost links (head ∷ []) free chains w frees (Some block) f l) ∙ is))

    by_free : (chains : List (List ℕ)) → walk_heads links [] (head ∷ []) ≡ Ok chains → (r : Result (List ℕ) ChainFault) → walk (suc (length links)) links (joined chains) [] free ≡ r → found.chains ≡ chains
    by_free chains w (Err fault) f = absurd (err_not fault found (sym (judged_free links (head ∷ []) free chains w fault f) ∙ is))
    by_free chains w (Ok frees) f = by_lost chains w frees f (first_lost (length links) 0 (joined chains ++ frees)) refl

    by_heads : (r : Result (List (List ℕ)) ChainFault) → walk_heads links [] (head ∷ []) ≡ r → (rest : List ℕ) × (found.chains ≡ (head ∷ rest) ∷ [])
    by_heads (Err fault) w = absurd (err_not fault found (sym (judged_heads links (head ∷ []) free fault w) ∙ is))
    by_heads (Ok chains) w =
        let one = one_walked links head chains w in
        (one.0, by_free chains w (walk (suc (length links)) links (joined chains) [] free) refl ∙ one.1)

-- a table whose links are those of a chain and of the free blocks
abbrev pub stands_for : Table → List ℕ → Entry
stands_for t chain = record { generation = t.generation; len = t.len; chain = chain }

pub entry_ok : (t : Table) (found : Judged) → 1 ≤ t.generation → judged t.links (t.head ∷ []) t.free ≡ Ok found → ends_in t.len (length (joined found.chains)) ≡ true → entry_of t ≡ Some (stands_for t (joined found.chains))
unfolding entry_of
entry_ok t found positive is ends =
    cond-true (leb 1 t.generation) (if_chained t (judged t.links (t.head ∷ []) t.free)) None (le-leb 1 t.generation positive)
    ∙ ap (if_chained t) is
    ∙ cond-true (ends_in t.len (length (joined found.chains))) (Some (stands_for t (joined found.chains))) None ends

pub entry_blank : (t : Table) → t.generation ≡ 0 → entry_of t ≡ None
unfolding entry_of
entry_blank t is = ap (λ (g : ℕ). cond (leb 1 g) (if_chained t (judged t.links (t.head ∷ []) t.free)) None) is

either_none : (b : Bool) → cond {A = Option Entry} b None None ≡ None
either_none true = refl
either_none false = refl

pub entry_fault : (t : Table) (fault : ChainFault) → judged t.links (t.head ∷ []) t.free ≡ Err fault → entry_of t ≡ None
unfolding entry_of
entry_fault t fault is = ap (λ (r : Result Judged ChainFault). cond (leb 1 t.generation) (if_chained t r) None) is ∙ either_none (leb 1 t.generation)

pub entry_unended : (t : Table) (found : Judged) → judged t.links (t.head ∷ []) t.free ≡ Ok found → ends_in t.len (length (joined found.chains)) ≡ false → entry_of t ≡ None
unfolding entry_of
entry_unended t found is ends =
    ap (λ (r : Result Judged ChainFault). cond (leb 1 t.generation) (if_chained t r) None) is
    ∙ ap (λ (o : Option Entry). cond (leb 1 t.generation) o None) (cond-false (ends_in t.len (length (joined found.chains))) (Some (stands_for t (joined found.chains))) None ends)
    ∙ either_none (leb 1 t.generation)

and_false : (a b : Bool) → (a && (b && false)) ≡ false
and_false true true = refl
and_false true false = refl
and_false false b = refl

long_ends : (len blocks : ℕ) → image_most < len → ends_in len blocks ≡ false
long_ends len blocks lt = ap (λ (c : Bool). leb len (block_len * blocks) && (ltb (block_len * blocks) (len + block_len) && c)) (lt-leb len image_most lt) ∙ and_false (leb len (block_len * blocks)) (ltb (block_len * blocks) (len + block_len))

pub entry_long : (t : Table) → image_most < t.len → entry_of t ≡ None
entry_long t lt = by_judged (judged t.links (t.head ∷ []) t.free) refl
  where
    by_judged : (r : Result Judged ChainFault) → judged t.links (t.head ∷ []) t.free ≡ r → entry_of t ≡ None
    by_judged (Err fault) e = entry_fault t fault e
    by_judged (Ok found) e = entry_unended t found e (long_ends t.len (length (joined found.chains)) lt)

pub entry_from_table : (bytes : List ℕ) (t : Table) (o : Option Entry) → table_in bytes ≡ Some t → entry_of t ≡ o → entry_in bytes ≡ o
unfolding entry_in
entry_from_table bytes t o is e = ap if_table is ∙ e

pub entry_no_table : (bytes : List ℕ) → table_in bytes ≡ None → entry_in bytes ≡ None
unfolding entry_in
entry_no_table bytes is = ap if_table is

length-words : (n : ℕ) (bytes : List ℕ) → length (words n bytes) ≡ n
length-words zero bytes = refl
length-words (suc n) bytes = ap (λ (k : ℕ). suc k) (length-words n (drop 4 bytes))

abbrev links_of : Option Table → List ℕ
links_of None = []
links_of (Some t) = t.links

none_not : {A : Type 0} (a : A) → None ≡ Some a → ⊥
none_not a e = cc

pub table_links : (bytes : List ℕ) (t : Table) → table_in bytes ≡ Some t → length t.links ≡ block_count
unfolding table_in
table_links bytes t is = by_marks (eqb (from_le_bytes w32 (take 4 bytes)) magic && eqb (from_le_bytes w32 (part 4 4 bytes)) block_count) refl
  where
    by_marks : (b : Bool) → (eqb (from_le_bytes w32 (take 4 bytes)) magic && eqb (from_le_bytes w32 (part 4 4 bytes)) block_count) ≡ b → length t.links ≡ block_count
    by_marks true e = ap (λ (o : Option Table). length (links_of o)) (sym is ∙ cond-true _ _ None e) ∙ length-words block_count (drop 32 bytes)
    by_marks false e = absurd (none_not t (sym (cond-false _ _ None e) ∙ is))

-- the table of what was read
abbrev pub said : TableParts → Table
said parts = record { generation = parts.generation; len = parts.len; head = parts.head; free = parts.free; links = parts.links.items }

pub said_in : (bytes : List ℕ) (o : Option TableParts) (parts : TableParts) → table_of o ≡ table_in bytes → o ≡ Some parts → table_in bytes ≡ Some (said parts)
said_in bytes o parts is some = sym is ∙ ap table_of some

-- how many blocks are in chains
pub judged_count : (blocks : Linked) (links heads : List ℕ) (free spare : ℕ) (j : IsJudged links heads free blocks) → length links ≡ block_count → spare ≡ length j.found.free → spare + length (joined j.found.chains) ≡ block_count
judged_count blocks links heads free spare j count is =
    let size = j.holds.size in
    omega (arith, ap length j.links_are)

and_right : (a b : Bool) → (a && b) ≡ true → (a ≡ true) × (b ≡ true)
and_right true true is = (refl, refl)
and_right true false is = absurd (false≢true is)
and_right false b is = absurd (false≢true is)

pub ends_short : (len blocks : ℕ) → ends_in len blocks ≡ true → block_len * blocks < image_most + block_len
ends_short len blocks is =
    let one = and_right (leb len (block_len * blocks)) (ltb (block_len * blocks) (len + block_len) && leb len image_most) is in
    let two = and_right (ltb (block_len * blocks) (len + block_len)) (leb len image_most) one.1 in
    let near = ltb-true (block_len * blocks) (len + block_len) two.0 in
    let most = leb-true len image_most two.1 in
    omega arith

-- an image that ends in its chain is no longer than a store takes
pub ends_most : (len blocks : ℕ) → ends_in len blocks ≡ true → len ≤ image_most
ends_most len blocks is =
    let one = and_right (leb len (block_len * blocks)) (ltb (block_len * blocks) (len + block_len) && leb len image_most) is in
    let two = and_right (ltb (block_len * blocks) (len + block_len)) (leb len image_most) one.1 in
    leb-true len image_most two.1

pub is_book : (bytes : List ℕ) (t : Table) (book : Book) (len : ℕ) (links : List ℕ) (j : IsJudged links (t.head ∷ []) t.free book.blocks) → table_in bytes ≡ Some t → links ≡ t.links → book.head ≡ t.head → book.generation ≡ t.generation → len ≡ t.len → 1 ≤ t.generation → ends_in t.len (length (joined j.found.chains)) ≡ true → length bytes ≡ table_len → book.table.items ≡ bytes → length book.block.items ≡ block_len → book.draft ≡ None → IsBook bytes book len
is_book bytes t book len links j is same head generation size positive ends long table block none =
    let found = j.found in
    let judged_so : judged t.links (t.head ∷ []) t.free ≡ Ok found = subst (λ (l : List ℕ). judged l (t.head ∷ []) t.free ≡ Ok found) same j.judged_so in
    let one = one_chain t.links t.head t.free found judged_so in
    let chains : found.chains ≡ (book.head ∷ one.0) ∷ [] = one.1 ∙ ap (λ (h : ℕ). (h ∷ one.0) ∷ []) (sym head) in
    let all : joined found.chains ≡ book.head ∷ one.0 = ap joined chains ∙ append-nil (book.head ∷ one.0) in
    let fits : Fits 4095 book = record {
      free = found.free;
      behind = one.0;
      taken = [];
      holds = subst (λ (cs : List (List ℕ)). Holds book.blocks found.free cs) chains j.holds;
      draft = subst (λ (o : Option Draft). IsDraft 4095 o []) (sym none) refl;
      count = ap length (j.links_are ∙ same) ∙ table_links bytes t is;
      short = subst (λ (c : List ℕ). block_len * length c < image_most + block_len) all (ends_short t.len (length (joined found.chains)) ends);
      table = ap length table ∙ long;
      block = block;
      positive = omega arith;
    } in
    record {
      fits = fits;
      found = stands_for t (joined found.chains);
      named = entry_from_table bytes t (Some (stands_for t (joined found.chains))) is (entry_ok t found positive judged_so ends);
      generation = sym generation;
      length = sym size;
      most = subst (λ (n : ℕ). n ≤ image_most) (sym size) (ends_most t.len (length (joined found.chains)) ends);
      chain = all ∙ sym (image_from 4095 book fits);
      table = table;
      draft = none;
    }
