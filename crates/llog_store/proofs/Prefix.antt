-- No spelling of a log is a proper beginning of another.
use Rattle.std.proofs.Common.{◌≡◌, ℕ, ◌+◌, ◌-◌, ◌^◌, ◌%◌, Bool, true, false, cond, ◌<◌, ◌≤◌, List, [], ◌∷◌, ◌++◌, length, Result, Ok, Err, refl, sym, ap, subst, ◌∙◌, append_assoc, arith, inl, inr}
use Rattle.std.proofs.lemmas.List.{length-append}
use Rattle.llog_store.specs.declared.fault.LlogFault.{LlogFault}
use Rattle.llog_store.specs.declared.fault.LlogFault.TheVariants as fault
use Rattle.llog_store.specs.Bitmap.{bitmap}
use Rattle.llog_store.specs.Log.{Entry, Log, room, fits_in, record_size, start_of, index_of, record_text, pad_text, header_text, entry_text, entry_end, records_text, Follows, is_live, live_count, log_text, spells}
use Rattle.llog_store.specs.Reading.{◌>>=◌, Header, header_at, Piece, Update, Pad, piece_at, at}
use Rattle.llog_store.proofs.Fields.{ok_is}
use Rattle.llog_store.proofs.Marks.{length-bitmap}
use Rattle.llog_store.proofs.Fitting.{Begins, begins_first, begins_entry, either_fits, text_fits, text_behind, start_fits, start_behind, index_fits, index_behind, length-record, length-pad, length-entry, follows_above, fits_none, fits_chunk, chunk_start}
use Rattle.llog_store.proofs.Records.{update_piece_again, pad_piece_again}
use Rattle.llog_store.proofs.Whole.{header_again, count_below}

-- the payload of the record at the front, behind a pad or not, and what is left
payload_behind : Piece → List ℕ → Result (List ℕ × List ℕ) LlogFault
payload_behind (Update payload) rest = Ok (payload, rest)
payload_behind (Pad size) rest = Err (fault.BadType 0)

payload_at : ℕ → ℕ → Piece → List ℕ → Result (List ℕ × List ℕ) LlogFault
payload_at len index (Update payload) rest = Ok (payload, rest)
payload_at len index (Pad size) rest = piece_at len (index + 1) size 0 rest >>= λ p. payload_behind p.0 p.1

first_at : ℕ → ℕ → List ℕ → Result (List ℕ × List ℕ) LlogFault
first_at len index bytes = piece_at len index 0 1 bytes >>= λ p. payload_at len index p.0 p.1

first_again : (len place index : ℕ) (e : Entry) (rest : List ℕ) → Begins place → length e.payload ≤ 24576 → index + 1 < 2 ^ 32 → e.index ≡ index_of place index (record_size (length e.payload)) → entry_end place e + length rest ≡ len → first_at len index (entry_text place e ++ rest) ≡ Ok (e.payload, rest)
unfolding first_at payload_at payload_behind
first_again len place index e rest b small low numbered there =
    let size = record_size (length e.payload) in
    elim (either_fits place e) [
      | inl fit ↦
          let index-is : e.index ≡ index = numbered ∙ index_fits place index size fit in
          let here : at len (record_text e.index e.payload ++ rest) ≡ place = omega (arith, there, length-append (record_text e.index e.payload) rest, length-record e.index e.payload, start_fits place size fit) in
          let one = update_piece_again len e.index 0 1 e.payload rest small (omega (arith, index-is)) (subst (λ (a : ℕ). fits_in (room a) size ≡ true) (sym here) fit) (fits_none size (omega arith)) in
          rw (text_fits place e fit, ← index-is, one) refl
      | inr off ↦
          let index-is : e.index ≡ index + 1 = numbered ∙ index_behind place index size off in
          let next = place + room place in
          let tail = record_text e.index e.payload ++ rest in
          let fit : fits_in (room next) size ≡ true = fits_chunk next (length e.payload) (chunk_start place) small in
          let here : at len tail ≡ next = omega (arith, there, length-append (record_text e.index e.payload) rest, length-record e.index e.payload, start_behind place size off) in
          let one = update_piece_again len e.index (room place) 0 e.payload rest small (omega (arith, index-is)) (subst (λ (a : ℕ). fits_in (room a) size ≡ true) (sym here) fit) off in
          let two : piece_at len (index + 1) (room place) 0 tail ≡ Ok (Update e.payload, rest) = subst (λ (i : ℕ). piece_at len i (room place) 0 tail ≡ Ok (Update e.payload, rest)) index-is one in
          let start : at len (pad_text (room place) index ++ tail) ≡ place = omega (arith, here, length-append (pad_text (room place) index) tail, length-pad (room place) index b.some, there, length-append (record_text e.index e.payload) rest, length-record e.index e.payload, start_behind place size off) in
          let even : room place % 8 ≡ 0 = let e8 = b.even in omega arith in
          let three = pad_piece_again len index 1 (room place) tail (omega arith) even b.some (omega arith) (ap room start) (omega arith) in
          let before : e.index - 1 ≡ index = omega (arith, index-is) in
          let regrouped : entry_text place e ++ rest ≡ pad_text (room place) index ++ tail = rw (text_behind place e off, before) (append_assoc (pad_text (room place) index) (record_text e.index e.payload) rest) in
          ap (λ (x : List ℕ). first_at len index x) regrouped ∙ rw (three, two) refl
    ]

index_cases : (index n : ℕ) (b : Bool) → index ≤ cond b index (index + 1)
index_cases index n true = omega arith
index_cases index n false = omega arith

index_above : (place index size : ℕ) → index ≤ index_of place index size
index_above place index size = index_cases index 0 (fits_in (room place) size)

-- records that begin alike, up to one next index, end alike
same_end : (xs bs : List Entry) (place index next : ℕ) (rest : List ℕ) → Begins place → next ≤ 256000 → Follows place index xs next → Follows place index bs next → records_text place xs ++ rest ≡ records_text place bs → rest ≡ []
unfolding Follows records_text
same_end [] [] place index next rest b low f g e = e
same_end [] (y ∷ bs) place index next rest b low f g e =
    let above = follows_above (entry_end place y) (y.index + 1) bs next g.2 in
    let numbered = index_above place index (record_size (length y.payload)) in
    absurd (omega (arith, f, above, g.0, numbered))
same_end (x ∷ xs) [] place index next rest b low f g e =
    let above = follows_above (entry_end place x) (x.index + 1) xs next f.2 in
    let numbered = index_above place index (record_size (length x.payload)) in
    absurd (omega (arith, g, above, f.0, numbered))
same_end (x ∷ xs) (y ∷ bs) place index next rest b low f g e =
    let left = records_text (entry_end place x) xs ++ rest in
    let right = records_text (entry_end place y) bs in
    let whole : entry_text place x ++ left ≡ entry_text place y ++ right = sym (append_assoc (entry_text place x) (records_text (entry_end place x) xs) rest) ∙ e in
    let len = entry_end place x + length left in
    let above = follows_above (entry_end place x) (x.index + 1) xs next f.2 in
    let numbered = index_above place index (record_size (length x.payload)) in
    let small : index + 1 < 2 ^ 32 = omega (arith, above, f.0, numbered) in
    let there : entry_end place y + length right ≡ len = omega (arith, ap length whole, length-append (entry_text place x) left, length-append (entry_text place y) right, length-entry place x b, length-entry place y b) in
    let one = first_again len place index x left b f.1 small f.0 refl in
    let two = first_again len place index y right b g.1 small g.0 there in
    let same = ok_is (x.payload, left) (y.payload, right) (sym one ∙ ap (λ (z : List ℕ). first_at len index z) whole ∙ two) in
    let payload : x.payload ≡ y.payload = ap (λ (p : List ℕ × List ℕ). p.0) same in
    let tail : left ≡ right = ap (λ (p : List ℕ × List ℕ). p.1) same in
    let ends : entry_end place y ≡ entry_end place x = ap (λ (p : List ℕ). start_of place (record_size (length p)) + record_size (length p)) (sym payload) in
    let indexes : y.index ≡ x.index = g.0 ∙ ap (λ (p : List ℕ). index_of place index (record_size (length p))) (sym payload) ∙ sym f.0 in
    let others : Follows (entry_end place x) (x.index + 1) bs next = subst (λ (p : ℕ). Follows p (x.index + 1) bs next) ends (subst (λ (i : ℕ). Follows (entry_end place y) (i + 1) bs next) indexes g.2) in
    same_end xs bs (entry_end place x) (x.index + 1) next rest (begins_entry place x b f.1) low f.2 others (tail ∙ ap (λ (p : ℕ). records_text p bs) ends)

pub no_prefix : (a b : Log) (text rest : List ℕ) → spells a text → spells b (text ++ rest) → rest ≡ []
unfolding log_text
no_prefix a b text rest s t =
    let bits_a = bitmap (is_live a.entries) in
    let bits_b = bitmap (is_live b.entries) in
    let records_a = records_text 32768 a.entries in
    let records_b = records_text 32768 b.entries in
    let whole : header_text a.next (live_count a.entries) bits_a ++ (records_a ++ rest) ≡ header_text b.next (live_count b.entries) bits_b ++ records_b =
    sym (append_assoc (header_text a.next (live_count a.entries) bits_a) records_a rest) ∙ ap (λ (x : List ℕ). x ++ rest) (sym s.1) ∙ t.1 in
    let high_a = s.0.next in
    let high_b = t.0.next in
    let few_a = count_below 32768 1 a.entries a.next s.0.follows in
    let few_b = count_below 32768 1 b.entries b.next t.0.follows in
    let one = header_again 0 a.next (live_count a.entries) bits_a (records_a ++ rest) (follows_above 32768 1 a.entries a.next s.0.follows) high_a (omega (arith, few_a)) (length-bitmap (is_live a.entries)) in
    let two = header_again 0 b.next (live_count b.entries) bits_b records_b (follows_above 32768 1 b.entries b.next t.0.follows) high_b (omega (arith, few_b)) (length-bitmap (is_live b.entries)) in
    let left : Header × List ℕ = (record { next = a.next; live = live_count a.entries; bits = bits_a }, records_a ++ rest) in
    let right : Header × List ℕ = (record { next = b.next; live = live_count b.entries; bits = bits_b }, records_b) in
    let same : left ≡ right = ok_is left right (sym one ∙ ap (λ (x : List ℕ). header_at 0 x) whole ∙ two) in
    let next : a.next ≡ b.next = ap (λ (p : Header × List ℕ). p.0.next) same in
    same_end a.entries b.entries 32768 1 b.next rest begins_first high_b (subst (λ (n : ℕ). Follows 32768 1 a.entries n) next s.0.follows) t.0.follows (ap (λ (p : Header × List ℕ). p.1) same)
