-- The steps of a commit, and what each image opens as where one of them is cut off.
use Rattle.std.specs.Prelude.{Result, Ok, Err, IsErr}
use Rattle.std.proofs.lemmas.Result.{IfOk-from_err}
use Rattle.std.proofs.Common.{◌≡◌, ◌≢◌, ◌⊎◌, inl, inr, ⊎_elim, ◌<◌, ℕ, List, [], ◌∷◌, Bool, Option, Some, false, true, eqb, length, take, refl, sym, ◌∙◌, ap, subst, arith, lit≤, lit<}
use Rattle.outside.specs.Disk.{Shown, ChangesOnly, part, put, settles}
use Rattle.outside.proofs.Parts.{put_changes, part_put, part_below, part_above, get_or_below, image_torn, length-put}
use Rattle.chain_blocks.specs.Chains.{times}
use Rattle.chain_blocks.specs.Stored.{KeepsOthers, stored}
use Rattle.chain_blocks.proofs.Spans.{stored_others}
use Rattle.target_disk.specs.Tables.{Saved, Entry, entry_in, is_open, opened, data_at, home_at, journal_at, table_len}
use Rattle.target_disk.specs.Draft.{put_len}
use Rattle.target_disk.specs.Calls.{Homes, TornHome}
use Rattle.target_disk.specs.Store.{HasPut, OpensAs, OpensAsEither, Stands, following, next}
use Rattle.target_disk.specs.Steps.{Closes, KeepsImage, PoursRest, Turns}
use Rattle.target_disk.specs.Consistent.{Fits, Knows, begun_of, draft_chain}
use Rattle.target_disk.specs.declared.book.Book.{Book}
use Rattle.target_disk.proofs.Opening.{entry_from, opened_from, opens_by, gate_front, table_front, saved_of, stored_above}
use Rattle.target_disk.proofs.Keeping.{kept_opens, fits_apart, put_size, stands_found}
use Rattle.target_disk.proofs.Homes.{IfErr-all}

some_same : {A : Type 0} (a b : A) → Some a ≡ Some b → a ≡ b
some_same a b e = cc

-- the gate, where what changed lies behind it
gate_kept : (a n : ℕ) (xs ys : List ℕ) → ChangesOnly a n xs ys → 0 < a → is_open ys ≡ is_open xs
unfolding is_open
gate_kept a n xs ys changes lt = ap (λ (v : ℕ). eqb v 1) (get_or_below a n xs ys 0 0 changes lt)

gate_put : (xs : List ℕ) (v : ℕ) → is_open (put xs 0 (v ∷ [])) ≡ eqb v 1
unfolding is_open
gate_put xs v = refl

-- both tables, where the gate is to tell which one opens
pub record Both (xs : List ℕ) (found new : Entry) : Type 0 where
  pub size : length xs ≡ 67108864
  pub home : entry_in (part home_at table_len xs) ≡ Some found
  pub journal : entry_in (part journal_at table_len xs) ≡ Some new

gate_cases : (b : Bool) → (b ≡ false) ⊎ (b ≡ true)
gate_cases false = inl refl
gate_cases true = inr refl

module _ (xs : List ℕ) (found new : Entry) (both : Both xs found new) where
  pub gate_torn : (image : List ℕ) → ChangesOnly 0 1 xs image → (opened image ≡ Some (saved_of xs found)) ⊎ (opened image ≡ Some (saved_of xs new))
  gate_torn image changes = ⊎_elim
      (λ shut. inl (opens_by false 0 1 xs image found changes (inl (lit≤ tt)) (lit≤ tt) shut both.home))
      (λ is. inr (opens_by true 0 1 xs image new changes (inl (lit≤ tt)) (lit≤ tt) is both.journal))
      (gate_cases (is_open image))

-- the journal table, and then the gate
module _ (xs table : List ℕ) (found new : Entry) (size : length xs ≡ 67108864) (shut : is_open xs ≡ false) (home : entry_in (part home_at table_len xs) ≡ Some found) (len : length table ≡ table_len) (is : entry_in table ≡ Some new) where
  journal_changes : ChangesOnly journal_at table_len xs (put xs journal_at table)
  journal_changes = subst (λ (n : ℕ). ChangesOnly journal_at n xs (put xs journal_at table)) len (put_changes xs journal_at table (omega arith))

  journal_torn : (image : List ℕ) → ChangesOnly journal_at table_len xs image → opened image ≡ Some (saved_of xs found)
  journal_torn image changes = opens_by false journal_at table_len xs image found changes (inr (lit≤ tt)) (lit≤ tt) (gate_kept journal_at table_len xs image changes (lit< tt) ∙ shut) home

  journal_put : Both (put xs journal_at table) found new
  journal_put = record {
    size = length-put xs journal_at table (omega arith) ∙ size;
    home = ap entry_in (part_below journal_at table_len xs (put xs journal_at table) home_at table_len journal_changes (lit≤ tt)) ∙ home;
    journal = ap entry_in (ap (λ (n : ℕ). part journal_at n (put xs journal_at table)) (sym len) ∙ part_put xs journal_at table (omega arith)) ∙ is;
  }

  journal_saved : (e : Entry) → saved_of (put xs journal_at table) e ≡ saved_of xs e
  journal_saved e = ap (λ (l : List ℕ). let s : Saved = record { generation = e.generation; bytes = take e.len l } in s) (stored_above journal_at table_len xs (put xs journal_at table) data_at e.chain journal_changes (lit≤ tt))

-- the home table, under an open gate
module _ (xs table : List ℕ) (new : Entry) (size : length xs ≡ 67108864) (gate : is_open xs ≡ true) (journal : entry_in (part journal_at table_len xs) ≡ Some new) (len : length table ≡ table_len) (is : entry_in table ≡ Some new) where
  home_changes : ChangesOnly home_at table_len xs (put xs home_at table)
  home_changes = subst (λ (n : ℕ). ChangesOnly home_at n xs (put xs home_at table)) len (put_changes xs home_at table (omega arith))

  home_saved : saved_of (put xs home_at table) new ≡ saved_of xs new
  home_saved = ap (λ (l : List ℕ). let s : Saved = record { generation = new.generation; bytes = take new.len l } in s) (stored_above home_at table_len xs (put xs home_at table) data_at new.chain home_changes (lit≤ tt))

  pub home_both : Both (put xs home_at table) new new
  home_both = record {
    size = length-put xs home_at table (omega arith) ∙ size;
    home = ap entry_in (ap (λ (n : ℕ). part home_at n (put xs home_at table)) (sym len) ∙ part_put xs home_at table (omega arith)) ∙ is;
    journal = ap entry_in (part_above home_at table_len xs (put xs home_at table) journal_at table_len home_changes (lit≤ tt)) ∙ journal;
  }

  pub home_shut : Both (put (put xs home_at table) 0 (0 ∷ [])) new new × (opened (put (put xs home_at table) 0 (0 ∷ [])) ≡ Some (saved_of xs new))
  home_shut =
      let ys = put xs home_at table in
      let changes : ChangesOnly 0 1 ys (put ys 0 (0 ∷ [])) = put_changes ys 0 (0 ∷ []) (omega (arith, home_both.size)) in (
        record {
          size = length-put ys 0 (0 ∷ []) (omega (arith, home_both.size)) ∙ home_both.size;
          home = ap entry_in (part_above 0 1 ys (put ys 0 (0 ∷ [])) home_at table_len changes (lit≤ tt)) ∙ home_both.home;
          journal = ap entry_in (part_above 0 1 ys (put ys 0 (0 ∷ [])) journal_at table_len changes (lit≤ tt)) ∙ home_both.journal;
        },
        opens_by false 0 1 ys (put ys 0 (0 ∷ [])) new changes (inl (lit≤ tt)) (lit≤ tt) (gate_put ys 0) home_both.home ∙ ap Some home_saved,
      )

  -- a stop within it leaves what opens
  pub home_torn : (old disk : Shown) → old.content ≡ xs → TornHome table old disk → OpensAs disk (saved_of xs new)
  home_torn old disk same (torn) = by_either torn.mid torn.either
    where
      by_either : (mid : List ℕ) → ((mid ≡ old.content) × ChangesOnly home_at table_len (settles mid) disk.settled) ⊎ ((mid ≡ put old.content home_at table) × ChangesOnly 0 1 (settles mid) disk.settled) → OpensAs disk (saved_of xs new)
      by_either mid (inl (before, changes)) = λ image here.
          let c : ChangesOnly home_at table_len xs image = subst (λ (l : List ℕ). ChangesOnly home_at table_len l image) (before ∙ same) (image_torn home_at table_len mid disk.settled image changes here) in
          opens_by true home_at table_len xs image new c (inl (lit≤ tt)) (lit≤ tt) (gate_kept home_at table_len xs image c (lit< tt) ∙ gate) journal
      by_either mid (inr (after, changes)) = λ image here.
          let c : ChangesOnly 0 1 (put xs home_at table) image = subst (λ (l : List ℕ). ChangesOnly 0 1 l image) (after ∙ ap (λ (l : List ℕ). put l home_at table) same) (image_torn 0 1 mid disk.settled image changes here) in
          ⊎_elim (λ e. e ∙ ap Some home_saved) (λ e. e ∙ ap Some home_saved) (gate_torn (put xs home_at table) new new home_both image c)

-- what is known behind the blocks of a commit, once these are settled
pub record Ready (before rest : Book) (disk : Shown) (xs : List ℕ) (found : Entry) (len : ℕ) : Type 0 where
  pub size : length xs ≡ 67108864
  pub shut : is_open xs ≡ false
  pub home : entry_in (part home_at table_len xs) ≡ Some found
  pub generation : found.generation ≡ rest.generation
  pub was : (s : Saved) → Stands disk s → saved_of xs found ≡ s
  pub put : (bytes : List ℕ) → HasPut disk (begun_of before) bytes → take len (stored xs data_at (draft_chain rest)) ≡ bytes

pub apart_from : (before rest : Book) (disk : Shown) (s : Saved) → (k : Knows before disk.content) → Fits 4095 rest → KeepsImage before rest → (st : Stands disk s) → (b : ℕ) → times b st.found.chain ≢ 0 → times b (draft_chain rest) ≡ 0
apart_from before rest disk s k f keeps st b ne = fits_apart 4095 rest f b (λ e. ne (ap (times b) (ap (λ (found : Entry). found.chain) (stands_found before disk s k st) ∙ k.chain ∙ sym keeps.chain) ∙ e))

pub ready : {T E : Type 0} (before rest : Book) (old mid new : Shown) (t : T) (len : ℕ) → (k : Knows before old.content) → Fits 4095 before → Fits 4095 rest → KeepsImage before rest → PoursRest {T = T} {E = E} (Ok t) before rest old mid → length old.content ≡ 67108864 → new.content ≡ mid.content → len ≡ put_len (begun_of before)
    → Ready before rest old new.content k.found len
ready before rest old mid new t len k f g keeps pours size same is =
    let front : take data_at new.content ≡ take data_at old.content = ap (take data_at) same ∙ pours.content.before in record {
      size = ap length same ∙ pours.content.size ∙ size;
      shut = gate_front old.content new.content front ∙ k.shut;
      home = ap entry_in (table_front false old.content new.content front) ∙ k.home;
      generation = k.generation ∙ sym keeps.generation;
      was = λ s st.
          let found_is = stands_found before old s k st in
          let chain : stored new.content data_at k.found.chain ≡ stored old.content data_at k.found.chain =
          ap (λ (l : List ℕ). stored l data_at k.found.chain) same
          ∙ stored_others data_at (draft_chain rest) k.found.chain old.content mid.content (λ b ne. apart_from before rest old s k g keeps st b (λ e. ne (ap (λ (found : Entry). times b found.chain) (sym found_is) ∙ e))) pours.content in
          ap (λ (l : List ℕ). let s : Saved = record { generation = k.found.generation; bytes = take k.found.len l } in s) chain
          ∙ some_same (saved_of old.content k.found) s (sym (opened_from old.content k.found (entry_from false old.content k.found k.shut k.home)) ∙ st.opens);
      put = λ bytes has.
          let size_is : len ≡ length bytes = is ∙ sym (put_size 4095 before old bytes f size has) in
          ap (λ (n : ℕ). take n (stored new.content data_at (draft_chain rest))) size_is ∙ ap (λ (l : List ℕ). take (length bytes) (stored l data_at (draft_chain rest))) same ∙ pours.put bytes has;
    }

module _ {T E : Type 0} where
  closes_torn : (q : Result T E) (before after : Book) (old new : Shown) → IsErr q → ((s : Saved) → (bytes : List ℕ) → Stands old s → HasPut old (begun_of before) bytes → OpensAsEither new s (next s bytes)) → Closes q before after old new
  closes_torn q before after old new err either = record {
    torn = λ s bytes st has. IfErr-all q (OpensAsEither new s (next s bytes)) (either s bytes st has);
    settled = IfOk-from_err q (λ _. new.settled ≡ settles new.content) err;
    knows = IfOk-from_err q (λ _. Knows after new.content) err;
    opens = λ s bytes st has. IfOk-from_err q (λ _. opened new.content ≡ Some (next s bytes)) err;
  }

  -- blocks alone were written
  pub closes_before : (q : Result T E) (before rest after : Book) (old new : Shown) → IsErr q → Knows before old.content → Fits 4095 rest → KeepsImage before rest → KeepsOthers data_at (draft_chain rest) old.settled new.settled → Closes q before after old new
  closes_before q before rest after old new err k f keeps settled = closes_torn q before after old new err (λ s bytes st has image here. inl (kept_opens old new (draft_chain rest) s st (apart_from before rest old s k f keeps st) settled image here))

abbrev pub turned : Book → ℕ → Entry
turned rest len = record { generation = following rest.generation; len = len; chain = draft_chain rest }

module _ (before rest after : Book) (old : Shown) (xs : List ℕ) (found : Entry) (len : ℕ) (r : Ready before rest old xs found len) (t : Turns rest after len) where
  is_next : (s : Saved) (bytes : List ℕ) → Stands old s → HasPut old (begun_of before) bytes → saved_of xs (turned rest len) ≡ next s bytes
  is_next s bytes st has =
      let generation : rest.generation ≡ s.generation = sym r.generation ∙ ap (λ (s : Saved). s.generation) (r.was s st) in
      ap (λ (g : ℕ). let s : Saved = record { generation = following g; bytes = take len (stored xs data_at (draft_chain rest)) } in s) generation
      ∙ ap (λ (l : List ℕ). let n : Saved = record { generation = following s.generation; bytes = l } in n) (r.put bytes has)

  -- the journal table may be torn
  pub closes_journal : {T E : Type 0} (q : Result T E) (other : Book) (mid new : Shown) → IsErr q → mid.content ≡ xs → mid.settled ≡ settles mid.content → ChangesOnly journal_at (length after.table.items) mid.settled new.settled → Closes q before other old new
  closes_journal q other mid new err content settled changes = closes_torn q before other old new err (λ s bytes st has image here.
      let c : ChangesOnly journal_at table_len (settles xs) new.settled = subst (λ (n : ℕ). ChangesOnly journal_at n (settles xs) new.settled) t.fits.table (subst (λ (l : List (Option ℕ)). ChangesOnly journal_at (length after.table.items) l new.settled) (settled ∙ ap settles content) changes) in
      inl (journal_torn xs after.table.items found (turned rest len) r.size r.shut r.home t.fits.table t.table image (image_torn journal_at table_len xs new.settled image c here) ∙ ap Some (r.was s st)))

  -- the gate may be torn
  pub closes_gate : {T E : Type 0} (q : Result T E) (other : Book) (mid new : Shown) → IsErr q → mid.content ≡ put xs journal_at after.table.items → mid.settled ≡ settles mid.content → ChangesOnly 0 1 mid.settled new.settled → Closes q before other old new
  closes_gate q other mid new err content settled changes = closes_torn q before other old new err (λ s bytes st has image here.
      let ys = put xs journal_at after.table.items in
      let c : ChangesOnly 0 1 (settles ys) new.settled = subst (λ (l : List (Option ℕ)). ChangesOnly 0 1 l new.settled) (settled ∙ ap settles content) changes in
      let saved = journal_saved xs after.table.items found (turned rest len) r.size r.shut r.home t.fits.table t.table in
      ⊎_elim
      (λ e. inl (e ∙ ap Some (saved found ∙ r.was s st)))
      (λ e. inr (e ∙ ap Some (saved (turned rest len) ∙ is_next s bytes st has)))
      (gate_torn ys found (turned rest len) (journal_put xs after.table.items found (turned rest len) r.size r.shut r.home t.fits.table t.table) image (image_torn 0 1 ys new.settled image c here)))

  -- the gate is open
  opened_gate : Both (put (put xs journal_at after.table.items) 0 (1 ∷ [])) found (turned rest len) × (saved_of (put (put xs journal_at after.table.items) 0 (1 ∷ [])) (turned rest len) ≡ saved_of xs (turned rest len))
  opened_gate =
      let ys = put xs journal_at after.table.items in
      let both = journal_put xs after.table.items found (turned rest len) r.size r.shut r.home t.fits.table t.table in
      let changes : ChangesOnly 0 1 ys (put ys 0 (1 ∷ [])) = put_changes ys 0 (1 ∷ []) (omega (arith, both.size)) in (
        record {
          size = length-put ys 0 (1 ∷ []) (omega (arith, both.size)) ∙ both.size;
          home = ap entry_in (part_above 0 1 ys (put ys 0 (1 ∷ [])) home_at table_len changes (lit≤ tt)) ∙ both.home;
          journal = ap entry_in (part_above 0 1 ys (put ys 0 (1 ∷ [])) journal_at table_len changes (lit≤ tt)) ∙ both.journal;
        },
        ap (λ (l : List ℕ). let s : Saved = record { generation = following rest.generation; bytes = take len l } in s) (stored_above 0 1 ys (put ys 0 (1 ∷ [])) data_at (draft_chain rest) changes (lit≤ tt))
            ∙ journal_saved xs after.table.items found (turned rest len) r.size r.shut r.home t.fits.table t.table (turned rest len),
      )

  -- the home table and the gate at the end
  pub closes_home : {T E : Type 0} (q : Result T E) (mid new : Shown) → mid.content ≡ put (put xs journal_at after.table.items) 0 (1 ∷ []) → mid.settled ≡ settles mid.content → Homes after.table.items q mid new → Closes q before after old new
  closes_home (Err e) mid new content settled homes =
      let zs = put (put xs journal_at after.table.items) 0 (1 ∷ []) in record {
        torn = λ s bytes st has image here.
            inr (home_torn zs after.table.items (turned rest len) opened_gate.0.size (gate_put (put xs journal_at after.table.items) 1) opened_gate.0.journal t.fits.table t.table mid new content (homes.torn settled) image here
            ∙ ap Some (opened_gate.1 ∙ is_next s bytes st has));
        settled = tt;
        knows = tt;
        opens = λ s bytes st has. tt;
      }
  closes_home (Ok x) mid new content settled homes =
      let zs = put (put xs journal_at after.table.items) 0 (1 ∷ []) in
      let end : new.content ≡ put (put zs home_at after.table.items) 0 (0 ∷ []) = homes.content ∙ ap (λ (l : List ℕ). put (put l home_at after.table.items) 0 (0 ∷ [])) content in
      let shut = home_shut zs after.table.items (turned rest len) opened_gate.0.size (gate_put (put xs journal_at after.table.items) 1) opened_gate.0.journal t.fits.table t.table in record {
        torn = λ s bytes st has. tt;
        settled = homes.settled;
        knows = record {
          shut = ap is_open end ∙ gate_put (put zs home_at after.table.items) 0;
          found = turned rest len;
          home = ap (λ (l : List ℕ). entry_in (part home_at table_len l)) end ∙ shut.0.home;
          generation = sym t.generation;
          chain = sym t.chain;
        };
        opens = λ s bytes st has. ap opened end ∙ shut.1 ∙ ap Some (opened_gate.1 ∙ is_next s bytes st has);
      }
