-- A disk that is opened as a store.
use Rattle.std.proofs.Common.{◌≡◌, inl, ⊎_elim, ◌≤◌, ℕ, List, [], ◌∷◌, Bool, true, false, Option, Some, None, length, take, refl, sym, ◌∙◌, ap, subst, arith}
use Rattle.std.specs.Prelude.{IsTrue, Result, Ok, Err}
use Rattle.std.proofs.lemmas.Bool.{cases_Bool}
use Rattle.outside.specs.Causes.{Rose}
use Rattle.outside.specs.Disk.{Shown, Stays, IsImage, ChangesOnly, disk_len, part, put, settles}
use Rattle.outside.proofs.Parts.{image_only, image_torn, length-put, part_above, part_put, put_changes}
use Rattle.chain_blocks.specs.Chains.{IsTrail}
use Rattle.chain_blocks.specs.Stored.{stored}
use Rattle.target_disk.specs.Calls.{Homes, Redoes, TornHome}
use Rattle.target_disk.specs.Consistent.{Knows, image_chain}
use Rattle.target_disk.specs.Open.{Reopens}
use Rattle.target_disk.specs.Reads.{Keeps, ReadFlag}
use Rattle.target_disk.specs.Steps.{IsBook}
use Rattle.target_disk.specs.Tables.{Saved, Entry, data_at, entry, entry_in, home_at, image_at, is_open, journal_at, opened, table_at, table_len}
use Rattle.target_disk.specs.declared.book.Book.{Book}
use Rattle.target_disk.specs.declared.read.ReadFault.{ReadFault}
use Rattle.target_disk.specs.declared.read.ReadFault.TheVariants.{Disk}
use Rattle.target_disk.proofs.Booked.{chain_at, image_from}
use Rattle.target_disk.proofs.Formatting.{gate_below, put_shut}
use Rattle.target_disk.proofs.Opening.{entry_from, opened_from, opened_none, opens_by, saved_of, stored_above}

-- a disk that was read, and read again
pub keeps_both : (old one two : Shown) → Keeps old one → Keeps one two → Keeps old two
keeps_both old one two k l = record {
  stays = record { tells = l.stays.tells ∙ k.stays.tells; honest = l.stays.honest ∙ k.stays.honest; name = l.stays.name ∙ k.stays.name };
  later = let a = k.later in let b = l.later in omega arith;
  content = λ tells. l.content (subst IsTrue (sym k.stays.tells) tells) ∙ k.content tells;
  settled = λ honest. l.settled (subst IsTrue (sym k.stays.honest) honest) ∙ k.settled honest;
}

pub keeps_reopens : (old new : Shown) → Keeps old new → Reopens old new
keeps_reopens old new k = record {
  stays = k.stays;
  later = k.later;
  same = λ honest clean image here. ap opened (image_only old.content image (subst (λ l. IsImage l image) (k.settled honest ∙ clean) here));
}

pub rose_later : (a b c : ℕ) → a ≤ b → Rose b c → Rose a c
rose_later a b c le rose = omega arith

-- what was read of a disk
pub record Sees (content : List ℕ) (gate : Bool) (book : Book) (image : List ℕ) : Type 0 where
  pub found : Entry
  pub gate_is : is_open content ≡ gate
  pub table : book.table.items ≡ part (table_at gate) table_len content
  pub named : entry_in book.table.items ≡ Some found
  pub generation : found.generation ≡ book.generation
  pub chain : found.chain ≡ image_chain book
  pub image_is : image_at content found ≡ image
  pub long : length book.table.items ≡ table_len

pub sees : (content items : List ℕ) (gate : Bool) (book : Book) (len : ℕ) (image : List ℕ) → gate ≡ is_open content → items ≡ part (table_at gate) table_len content → (b : IsBook items book len) → image ≡ take len (stored content data_at (book.head ∷ b.fits.behind)) → Sees content gate book image
sees content items gate book len image gate_is table b image_is = record {
  found = b.found;
  gate_is = sym gate_is;
  table = b.table ∙ table;
  named = ap entry_in b.table ∙ b.named;
  generation = b.generation;
  chain = b.chain;
  image_is = ap (λ (n : ℕ). take n (stored content data_at b.found.chain)) b.length ∙ ap (λ (c : List ℕ). take len (stored content data_at c)) (b.chain ∙ image_from 4095 book b.fits) ∙ sym image_is;
  long = b.fits.table;
}

abbrev pub saved_as : Book → List ℕ → Saved
saved_as book image = record { generation = book.generation; bytes = image }

saved_is : (content : List ℕ) (gate : Bool) (book : Book) (image : List ℕ) (s : Sees content gate book image) → Some (saved_of content s.found) ≡ Some (saved_as book image)
saved_is content gate book image s =
    ap (λ (n : ℕ). let v : Saved = record { generation = n; bytes = image_at content s.found } in Some v) s.generation
    ∙ ap (λ (l : List ℕ). let v : Saved = record { generation = book.generation; bytes = l } in Some v) s.image_is

pub sees_opened : (content : List ℕ) (gate : Bool) (book : Book) (image : List ℕ) → Sees content gate book image → opened content ≡ Some (saved_as book image)
sees_opened content gate book image s = opened_from content s.found (entry_from gate content s.found s.gate_is (ap entry_in (sym s.table) ∙ s.named)) ∙ saved_is content gate book image s

-- the table that the gate names isn't readable
entry_none : (second : Bool) (image : List ℕ) → is_open image ≡ second → entry_in (part (table_at second) table_len image) ≡ None → entry image ≡ None
unfolding entry
entry_none second image gate is = ap (λ (b : Bool). entry_in (part (table_at b) table_len image)) gate ∙ is

pub none_opened : (content items : List ℕ) (gate : Bool) → gate ≡ is_open content → items ≡ part (table_at gate) table_len content → entry_in items ≡ None → opened content ≡ None
none_opened content items gate gate_is table none = opened_none content (entry_none gate content (sym gate_is) (ap entry_in (sym table) ∙ none))

pub read_flag : (T : Type 0) (now : Bool) (f : ReadFault) → f ≡ Disk → ReadFlag {T = T} now (Err f) → now ≡ true
read_flag T now f is flag = subst (λ (x : ReadFault). ReadFlag {T = T} now (Err x)) is flag

pub err_same : (T : Type 0) (f g : ReadFault) → f ≡ g → ◌≡◌ {A = Result T ReadFault} (Err f) (Err g)
err_same T f g is = ap (λ (x : ReadFault). let r : Result T ReadFault = Err x in r) is

pub sees_read : (old one : Shown) (items : List ℕ) (gate : Bool) (book : Book) (len : ℕ) (image : List ℕ) → Keeps old one → IsTrue old.tells → gate ≡ is_open old.content → items ≡ part (table_at gate) table_len old.content → IsBook items book len
    → ((behind : List ℕ) → IsTrail book.blocks.links book.head (book.head ∷ behind) → image ≡ take len (stored one.content data_at (book.head ∷ behind))) → Sees old.content gate book image
sees_read old one items gate book len image k tells gate_is table b read =
    let chain = book.head ∷ b.fits.behind in
    sees old.content items gate book len image gate_is table b (read b.fits.behind (chain_at book.blocks.links b.fits.taken chain [] b.fits.holds.chains_stand) ∙ ap (λ (l : List ℕ). take len (stored l data_at chain)) (k.content tells))

-- the home table is put under an open gate, and the gate is shut
abbrev pub homed : List ℕ → List ℕ → List ℕ
homed content table = put (put content home_at table) 0 (0 ∷ [])

module _ (content table : List ℕ) (found : Entry) (size : length content ≡ disk_len) (long : length table ≡ table_len) (named : entry_in table ≡ Some found) where
  mid : List ℕ
  mid = put content home_at table

  first : ChangesOnly home_at (length table) content (put content home_at table)
  first = put_changes content home_at table (omega arith)

  mid_size : length (put content home_at table) ≡ disk_len
  mid_size = length-put content home_at table (omega arith) ∙ size

  second : ChangesOnly 0 1 (put content home_at table) (homed content table)
  second = put_changes (put content home_at table) 0 (0 ∷ []) (omega (arith, mid_size))

  -- the home table reads back
  home_named : entry_in (part home_at table_len (put content home_at table)) ≡ Some found
  home_named = ap (λ (n : ℕ). entry_in (part home_at n (put content home_at table))) (sym long) ∙ ap entry_in (part_put content home_at table (omega arith)) ∙ named

  home_stored : stored (put content home_at table) data_at found.chain ≡ stored content data_at found.chain
  home_stored = stored_above home_at (length table) content (put content home_at table) data_at found.chain first (omega arith)

  home_saved : Some (saved_of (put content home_at table) found) ≡ Some (saved_of content found)
  home_saved = ap (λ (l : List ℕ). let v : Saved = record { generation = found.generation; bytes = take found.len l } in Some v) home_stored

  pub homed_shut : is_open (homed content table) ≡ false
  homed_shut = put_shut (put content home_at table)

  pub homed_named : entry_in (part home_at table_len (homed content table)) ≡ Some found
  homed_named = ap entry_in (part_above 0 1 (put content home_at table) (homed content table) home_at table_len second (omega arith)) ∙ home_named

  pub homed_opened : opened (homed content table) ≡ Some (saved_of content found)
  homed_opened = opens_by false 0 1 (put content home_at table) (homed content table) found second (inl (omega arith)) (omega arith) homed_shut home_named ∙ home_saved

  -- a stop in between
  pub home_torn : (old new : Shown) → old.content ≡ content → is_open content ≡ true → part journal_at table_len content ≡ table → TornHome table old new → (image : List ℕ) → IsImage new.settled image → opened image ≡ Some (saved_of content found)
  home_torn old new same gate journal torn image here = ⊎_elim
      (λ (is, changes). in_home (image_torn home_at table_len content new.settled image (subst (λ (l : List ℕ). ChangesOnly home_at table_len (settles l) new.settled) (is ∙ same) changes) here))
      (λ (is, changes). at_gate (is_open image) refl (image_torn 0 1 (put content home_at table) new.settled image (subst (λ (l : List ℕ). ChangesOnly 0 1 (settles l) new.settled) (is ∙ ap (λ (l : List ℕ). put l home_at table) same) changes) here))
      torn.either
    where
      in_home : ChangesOnly home_at table_len content image → opened image ≡ Some (saved_of content found)
      in_home changes = opens_by true home_at table_len content image found changes (inl (omega arith)) (omega arith) (gate_below home_at table_len content image changes (omega arith) ∙ gate) (ap entry_in journal ∙ named)

      journal_named : entry_in (part journal_at table_len (put content home_at table)) ≡ Some found
      journal_named = ap entry_in (part_above home_at (length table) content (put content home_at table) journal_at table_len first (omega arith) ∙ journal) ∙ named

      at_gate : (b : Bool) → is_open image ≡ b → ChangesOnly 0 1 (put content home_at table) image → opened image ≡ Some (saved_of content found)
      at_gate true is changes = opens_by true 0 1 (put content home_at table) image found changes (inl (omega arith)) (omega arith) is journal_named ∙ home_saved
      at_gate false is changes = opens_by false 0 1 (put content home_at table) image found changes (inl (omega arith)) (omega arith) is home_named ∙ home_saved

-- what an answer of the calls under an open gate leaves
pub redo_reopens : {T E : Type 0} (r : Result T E) (old two three : Shown) (gate : Bool) (book : Book) (image : List ℕ) → Keeps old two → Stays two three → two.faults ≤ three.faults → (IsTrue old.honest → IsTrue old.tells) → (IsTrue old.honest → length old.content ≡ disk_len)
    → (IsTrue old.tells → Sees old.content gate book image) → (IsTrue two.honest → Redoes gate book.table.items r two three) → Reopens old three
redo_reopens {T} {E} r old two three gate book image k stays later told size seen redoes = record {
  stays = record { tells = stays.tells ∙ k.stays.tells; honest = stays.honest ∙ k.stays.honest; name = stays.name ∙ k.stays.name };
  later = let a = k.later in omega arith;
  same = λ honest clean other here.
      let tells = told honest in
      let s = seen tells in
      let did = redoes (subst IsTrue (sym k.stays.honest) honest) in
      let same : two.content ≡ old.content = k.content tells in
      let two_clean : two.settled ≡ settles two.content = k.settled honest ∙ clean ∙ ap settles (sym same) in
      ⊎_elim
      (λ open_gate. by_answer r s (size honest) same two_clean (s.gate_is ∙ open_gate) (sym (s.table ∙ ap (λ (b : Bool). part (table_at b) table_len old.content) open_gate)) (did.homes open_gate) other here)
      (λ shut_gate. ap opened (image_only old.content other (subst (λ (l : List (Option ℕ)). IsImage l other) (ap (λ (d : Shown). d.settled) ((did.shut shut_gate).0) ∙ k.settled honest ∙ clean) here)))
      (cases_Bool gate);
}
  where
    by_answer : (r : Result T E) → (s : Sees old.content gate book image) → length old.content ≡ disk_len → two.content ≡ old.content → two.settled ≡ settles two.content → is_open old.content ≡ true → part journal_at table_len old.content ≡ book.table.items → Homes book.table.items r two three
        → (other : List ℕ) → IsImage three.settled other → opened other ≡ opened old.content
    by_answer (Ok x) s size same two_clean gate_open journal homes other here =
        ap opened (image_only three.content other (subst (λ (l : List (Option ℕ)). IsImage l other) homes.settled here) ∙ homes.content ∙ ap (λ (l : List ℕ). homed l book.table.items) same)
        ∙ homed_opened old.content book.table.items s.found size s.long s.named ∙ saved_is old.content gate book image s ∙ sym (sees_opened old.content gate book image s)
    by_answer (Err e) s size same two_clean gate_open journal homes other here =
        home_torn old.content book.table.items s.found size s.long s.named two three same gate_open journal (homes.torn two_clean) other here
        ∙ saved_is old.content gate book image s ∙ sym (sees_opened old.content gate book image s)

-- and where they succeeded
pub record Redone (old three : Shown) (book : Book) (image : List ℕ) : Type 0 where
  pub knows : Knows book three.content
  pub opens : opened three.content ≡ Some (saved_as book image)
  pub clean : old.settled ≡ settles old.content → three.settled ≡ settles three.content

pub redone : {T E : Type 0} (x : T) (old two three : Shown) (gate : Bool) (book : Book) (image : List ℕ) → IsTrue old.honest → IsTrue old.tells → Keeps old two → length old.content ≡ disk_len → Sees old.content gate book image → Redoes {E = E} gate book.table.items (Ok x) two three → Redone old three book image
redone {T} {E} x old two three gate book image honest tells k size s did = ⊎_elim opened_gate shut_gate (cases_Bool gate)
  where
    same : two.content ≡ old.content
    same = k.content tells

    opened_gate : gate ≡ true → Redone old three book image
    opened_gate e =
        let homes : Homes {E = E} book.table.items (Ok x) two three = did.homes e in
        let c : three.content ≡ homed old.content book.table.items = homes.content ∙ ap (λ (l : List ℕ). homed l book.table.items) same in
        record {
          knows = record {
            shut = ap is_open c ∙ homed_shut old.content book.table.items s.found size s.long s.named;
            found = s.found;
            home = ap (λ (l : List ℕ). entry_in (part home_at table_len l)) c ∙ homed_named old.content book.table.items s.found size s.long s.named;
            generation = s.generation;
            chain = s.chain;
          };
          opens = ap opened c ∙ homed_opened old.content book.table.items s.found size s.long s.named ∙ saved_is old.content gate book image s;
          clean = λ clean. homes.settled;
        }

    shut_gate : gate ≡ false → Redone old three book image
    shut_gate e =
        let is : three ≡ two = (did.shut e).0 in
        let c : three.content ≡ old.content = ap (λ (d : Shown). d.content) is ∙ same in
        record {
          knows = record {
            shut = ap is_open c ∙ s.gate_is ∙ e;
            found = s.found;
            home = ap (λ (l : List ℕ). entry_in (part home_at table_len l)) c ∙ ap entry_in (sym (s.table ∙ ap (λ (b : Bool). part (table_at b) table_len old.content) e)) ∙ s.named;
            generation = s.generation;
            chain = s.chain;
          };
          opens = ap opened c ∙ sees_opened old.content gate book image s;
          clean = λ clean. ap (λ (d : Shown). d.settled) is ∙ k.settled honest ∙ clean ∙ ap settles (sym c);
        }
