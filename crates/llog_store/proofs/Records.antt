-- The records of a log: what was written is read again, and what is read was written so.
use Rattle.std.proofs.Common.{◌≡◌, ◌≢◌, ℕ, zero, suc, ◌+◌, ◌-◌, ◌%◌, ◌^◌, ◌<◌, ◌≤◌, Bool, true, false, cond, eqb, ltb, leb, not, ◌&&◌, List, [], ◌∷◌, ◌++◌, length, map, Result, Ok, Err, refl, sym, ap, subst, ◌∙◌, append_assoc, arith, inl, inr, add-zero}
use Rattle.std.proofs.lemmas.Bool.Decides.{eqb_tells}
use Rattle.std.proofs.lemmas.Bool.{eqb-true, eq-eqb, leb-true, le-leb, ltb-true, lt-ltb}
use Rattle.std.proofs.lemmas.List.{length-append, nil_from_length}
use Rattle.llog_store.specs.declared.fault.LlogFault.{LlogFault}
use Rattle.llog_store.specs.declared.fault.LlogFault.TheVariants as fault
use Rattle.llog_store.specs.Numbers.{word, zeros, pad8, IsBytes}
use Rattle.llog_store.specs.Log.{Entry, room, fits_in, record_size, start_of, index_of, record_text, pad_text, entry_text, entry_end, records_text, Follows}
use Rattle.llog_store.specs.Reading.{◌>>=◌, at, size_stands, is_pad_size, size_at, known_at, kind_at, Piece, Update, Pad, update_at, pad_at, pad_stands, piece_at, Found, found_in, lost_in, number_at, end_at, records_at, entry_of}
use Rattle.llog_store.specs.Views.{place_of}
use Rattle.llog_store.specs.Places.{places_of, founds_of}
use Rattle.llog_store.proofs.Words.{pad8_near}
use Rattle.llog_store.proofs.Fields.{bind_ok, ok_is, Takes, Takes-then, Takes-length, known_takes, known_again}
use Rattle.llog_store.proofs.Pieces.{both, both_true, pad_size_none, update_size_stands, pad_size_stands, size_takes, size_again, kind_takes, update_kind_again, pad_kind_again, update_takes, update_again, pad_takes, pad_again}
use Rattle.llog_store.proofs.Fitting.{fits_none, fits_chunk, fits_same, Begins, begins_entry, chunk_start, size_even, length-record, length-pad, length-entry, text_fits, text_behind, start_fits, start_behind, index_fits, index_behind, either_fits, follows_above}

-- ---- one record

-- what a record that was read says of the bytes, for an update record and for a pad
abbrev pub Took : ℕ → ℕ → ℕ → ℕ → List ℕ → List ℕ → Piece → Type 0
Took len index lost more bytes rest (Update payload) =
    Takes bytes (record_text index payload) rest × (length payload ≤ 24576) × (fits_in (room (at len bytes)) (record_size (length payload)) ≡ true) × (fits_in lost (record_size (length payload)) ≡ false)
Took len index lost more bytes rest (Pad size) =
    Takes bytes (pad_text size index) rest × (room (at len bytes) ≡ size) × (lost ≡ 0) × (0 < more) × (24 ≤ size)

took_update : (len index lost more : ℕ) (bytes rest : List ℕ) (size : ℕ) (a b : List ℕ) (pad_may : Bool) (after : List ℕ) (p : Piece) → Takes bytes (word size) a → size_stands (room (at len bytes)) size ≡ true → fits_in lost size ≡ false → Takes a (word index) b
    → Takes b (word 0x106a0000) after → update_at len size index after ≡ Ok (p, rest) → Took len index lost more bytes rest p
unfolding record_text
took_update len index lost more bytes rest size a b pad_may after p ts stands behind ti tk e =
    let u = update_takes len size index after p rest tk.fits e in
    let payload = u.0 in
    let tail = u.2.taken in
    let tail_text = zeros 4 ++ (word (length payload) ++ (zeros 4 ++ (payload ++ (zeros (pad8 (length payload) - length payload) ++ (word size ++ word index))))) in
    let e2 = Takes-then b (word 0x106a0000) after tail_text rest tk tail in
    let e1 = Takes-then a (word index) b (word 0x106a0000 ++ tail_text) rest ti e2 in
    let e0 = Takes-then bytes (word size) a (word index ++ (word 0x106a0000 ++ tail_text)) rest ts e1 in
    let fit : fits_in (room (at len bytes)) size ≡ true = (both _ _ stands).1 in
    let made : Took len index lost more bytes rest (Update payload) = (
      subst (λ (s : ℕ). Takes bytes (word s ++ (word index ++ (word 0x106a0000 ++ (zeros 4 ++ (word (length payload) ++ (zeros 4 ++ (payload ++ (zeros (pad8 (length payload) - length payload) ++ (word s ++ word index))))))))) rest) u.2.size_is e0,
      u.2.small,
      subst (λ (s : ℕ). fits_in (room (at len bytes)) s ≡ true) u.2.size_is fit,
      subst (λ (s : ℕ). fits_in lost s ≡ false) u.2.size_is behind,
    ) in
    subst (λ (q : Piece). Took len index lost more bytes rest q) (sym u.1) made

took_pad : (len index lost more : ℕ) (bytes rest : List ℕ) (size : ℕ) (a b : List ℕ) (after : List ℕ) (p : Piece) → Takes bytes (word size) a → size_stands (room (at len bytes)) size ≡ true → Takes a (word index) b
    → Takes b (word 0x10600000) after → pad_stands (room (at len bytes)) size lost more ≡ true → pad_at len size index after ≡ Ok (p, rest) → Took len index lost more bytes rest p
unfolding pad_text
took_pad len index lost more bytes rest size a b after p ts stands ti tk may e =
    let u = pad_takes len size index after p rest tk.fits e in
    let tail_text = zeros 4 ++ (zeros (size - 24) ++ (word size ++ word index)) in
    let e2 = Takes-then b (word 0x10600000) after tail_text rest tk u.1 in
    let e1 = Takes-then a (word index) b (word 0x10600000 ++ tail_text) rest ti e2 in
    let e0 = Takes-then bytes (word size) a (word index ++ (word 0x10600000 ++ tail_text)) rest ts e1 in
    let outer = both (eqb (room (at len bytes)) size && eqb lost 0) (ltb 0 more) may in
    let inner = both (eqb (room (at len bytes)) size) (eqb lost 0) outer.0 in
    let big : leb 24 size ≡ true = (both (eqb (size % 8) 0) (leb 24 size) (both _ _ stands).0).1 in
    let made : Took len index lost more bytes rest (Pad size) = (e0, eqb-true _ _ inner.0, eqb-true _ _ inner.1, ltb-true _ _ outer.1, leb-true _ _ big) in
    subst (λ (q : Piece). Took len index lost more bytes rest q) (sym u.0) made

piece_cases : (len index lost more : ℕ) (bytes rest : List ℕ) (size : ℕ) (a b : List ℕ) (is_pad : Bool) (after : List ℕ) (p : Piece) → Takes bytes (word size) a → size_stands (room (at len bytes)) size ≡ true → fits_in lost size ≡ false → Takes a (word index) b
    → Takes b (word (cond is_pad 0x10600000 0x106a0000)) after → (is_pad ≡ true → pad_stands (room (at len bytes)) size lost more ≡ true) → cond is_pad (pad_at len size index after) (update_at len size index after) ≡ Ok (p, rest) → Took len index lost more bytes rest p
piece_cases len index lost more bytes rest size a b true after p ts stands behind ti tk may e = took_pad len index lost more bytes rest size a b after p ts stands ti tk (may refl) e
piece_cases len index lost more bytes rest size a b false after p ts stands behind ti tk may e = took_update len index lost more bytes rest size a b false after p ts stands behind ti tk e

pub piece_takes : (len index lost more : ℕ) (bytes : List ℕ) (p : Piece) (rest : List ℕ) → IsBytes bytes → piece_at len index lost more bytes ≡ Ok (p, rest) → Took len index lost more bytes rest p
unfolding piece_at
piece_takes len index lost more bytes p rest fits e =
    let s = bind_ok (size_at len lost more bytes) (λ size. known_at len index (fault.BadIndex (at len size.1)) size.1 >>= λ a. kind_at len (not (is_pad_size size.0)) (pad_stands (room (at len bytes)) size.0 lost more) a >>= λ pad. cond pad.0 (pad_at len size.0 index pad.1) (update_at len size.0 index pad.1)) (p, rest) e in
    let i = bind_ok (known_at len index (fault.BadIndex (at len s.0.1)) s.0.1) (λ a. kind_at len (not (is_pad_size s.0.0)) (pad_stands (room (at len bytes)) s.0.0 lost more) a >>= λ pad. cond pad.0 (pad_at len s.0.0 index pad.1) (update_at len s.0.0 index pad.1)) (p, rest) s.2 in
    let k = bind_ok (kind_at len (not (is_pad_size s.0.0)) (pad_stands (room (at len bytes)) s.0.0 lost more) i.0) (λ pad. cond pad.0 (pad_at len s.0.0 index pad.1) (update_at len s.0.0 index pad.1)) (p, rest) i.2 in
    let ts = size_takes len lost more bytes s.0.0 s.0.1 fits s.1 in
    let ti = known_takes len index (fault.BadIndex (at len s.0.1)) s.0.1 i.0 ts.taken.fits i.1 in
    let tk = kind_takes len (not (is_pad_size s.0.0)) (pad_stands (room (at len bytes)) s.0.0 lost more) i.0 k.0.0 k.0.1 ti.fits k.1 in
    piece_cases len index lost more bytes rest s.0.0 s.0.1 i.0 k.0.0 k.0.1 p ts.taken ts.stands ts.behind ti tk.0 tk.1 k.2

-- an update record that fits where it stands, and not in the pad before it
pub update_piece_again : (len index lost more : ℕ) (payload rest : List ℕ) → length payload ≤ 24576 → index < 2 ^ 32 → fits_in (room (at len (record_text index payload ++ rest))) (record_size (length payload)) ≡ true → fits_in lost (record_size (length payload)) ≡ false
    → piece_at len index lost more (record_text index payload ++ rest) ≡ Ok (Update payload, rest)
unfolding piece_at record_text
update_piece_again len index lost more payload rest small i fit behind =
    let n = length payload in
    let size = record_size n in
    let below : size < 2 ^ 32 = omega (arith, pad8_near n) in
    let r2 = zeros 4 ++ (word n ++ (zeros 4 ++ (payload ++ (zeros (pad8 n - n) ++ (word size ++ (word index ++ rest)))))) in
    let r1 = word 0x106a0000 ++ r2 in
    let r0 = word index ++ r1 in
    let regrouped : record_text index payload ++ rest ≡ word size ++ r0 = simp append_assoc in
    let stands : size_stands (room (at len (word size ++ r0))) size ≡ true = both_true _ _ (both_true _ _ (eq-eqb _ _ (size_even n)) (le-leb 24 size (omega arith))) (subst (λ (x : List ℕ). fits_in (room (at len x)) size ≡ true) regrouped fit) in
    ap (λ (x : List ℕ). piece_at len index lost more x) regrouped ∙ rw (size_again len lost more size r0 below stands behind (update_size_stands n (pad_stands (room (at len (word size ++ r0))) size lost more) small), known_again len index (fault.BadIndex (at len r0)) r1 i, update_kind_again len (not (is_pad_size size)) (pad_stands (room (at len (word size ++ r0))) size lost more) r2 (ap not (pad_size_none n small))) (update_again len index payload rest small below i)

pub pad_piece_again : (len index more size : ℕ) (rest : List ℕ) → index < 2 ^ 32 → size % 8 ≡ 0 → 24 ≤ size → size ≤ 32768 → room (at len (pad_text size index ++ rest)) ≡ size → 0 < more
    → piece_at len index 0 more (pad_text size index ++ rest) ≡ Ok (Pad size, rest)
unfolding piece_at pad_text
pad_piece_again len index more size rest i even some most is left =
    let below : size < 2 ^ 32 = omega arith in
    let r2 = zeros 4 ++ (zeros (size - 24) ++ (word size ++ (word index ++ rest))) in
    let r1 = word 0x10600000 ++ r2 in
    let r0 = word index ++ r1 in
    let regrouped : pad_text size index ++ rest ≡ word size ++ r0 = simp append_assoc in
    let here : room (at len (word size ++ r0)) ≡ size = subst (λ (x : List ℕ). room (at len x) ≡ size) regrouped is in
    let fit : fits_in (room (at len (word size ++ r0))) size ≡ true = subst (λ (r : ℕ). fits_in r size ≡ true) (sym here) (fits_same size) in
    let stands : size_stands (room (at len (word size ++ r0))) size ≡ true = both_true _ _ (both_true _ _ (eq-eqb _ _ even) (le-leb 24 size some)) fit in
    let may : pad_stands (room (at len (word size ++ r0))) size 0 more ≡ true = both_true _ _ (both_true _ _ (eq-eqb _ _ here) refl) (lt-ltb 0 more left) in
    ap (λ (x : List ℕ). piece_at len index 0 more x) regrouped ∙ rw (size_again len 0 more size r0 below stands (fits_none size (omega arith)) (pad_size_stands size (pad_stands (room (at len (word size ++ r0))) size 0 more) may), known_again len index (fault.BadIndex (at len r0)) r1 i, may, pad_kind_again len (not (is_pad_size size)) r2) (pad_again len size index rest below i)

-- ---- all records

-- What was read behind a pad that filled so many bytes did not fit there.
abbrev pub Behind : ℕ → List Entry → Type 0
Behind lost [] = lost ≡ 0
Behind lost (e ∷ es) = fits_in lost (record_size (length e.payload)) ≡ false

-- what records that were read say of the bytes at a place
pub record TookAll (bits : List ℕ) (place index lost count : ℕ) (bytes : List ℕ) (fs : List Found) : Type 0 where
  pub text : bytes ≡ records_text place (map (entry_of bits) fs)
  pub follows : Follows place index (map (entry_of bits) fs) (index + count)
  pub behind : Behind lost (map (entry_of bits) fs)
  pub places : map place_of fs ≡ places_of place (map (entry_of bits) fs)

end_cases : (len : ℕ) (b : Bool) (bytes : List ℕ) (fs : List Found) → cond {A = Result (List Found) LlogFault} b (Ok []) (size_at len 0 0 bytes >>= λ size. number_at len size.1 >>= λ n. Err (fault.BadIndex (at len size.1))) ≡ Ok fs → (b ≡ true) × (fs ≡ [])
end_cases len true bytes fs e = (refl, sym (ok_is [] fs e))
end_cases len false bytes fs e =
    let s = bind_ok (size_at len 0 0 bytes) (λ size. number_at len size.1 >>= λ n. Err (fault.BadIndex (at len size.1))) fs e in
    let n = bind_ok (number_at len s.0.1) (λ n. Err (fault.BadIndex (at len s.0.1))) fs s.2 in
    absurd (let bad = n.2 in cc)

end_takes : (len : ℕ) (bytes : List ℕ) (fs : List Found) → end_at len bytes ≡ Ok fs → (bytes ≡ []) × (fs ≡ [])
unfolding end_at
end_takes len bytes fs e =
    let c = end_cases len (eqb (length bytes) 0) bytes fs e in
    (nil_from_length bytes (eqb-true _ _ c.0), c.1)

-- one update record more in front
took_more : (bits : List ℕ) (place index lost more at_place : ℕ) (bytes rest payload : List ℕ) (fs : List Found) → bytes ≡ record_text index payload ++ rest → length payload ≤ 24576 → fits_in (room place) (record_size (length payload)) ≡ true
    → fits_in lost (record_size (length payload)) ≡ false → at_place ≡ place → TookAll bits (place + record_size (length payload)) (index + 1) 0 more rest fs → TookAll bits place index lost (suc more) bytes (record { index = index; at = at_place; payload = payload } ∷ fs)
unfolding records_text Follows places_of
took_more bits place index lost more at_place bytes rest payload fs parts small fit behind here t =
    let f : Found = record { index = index; at = at_place; payload = payload } in
    let e = entry_of bits f in
    let size = record_size (length payload) in
    let ends : entry_end place e ≡ place + size = ap (λ (p : ℕ). p + size) (start_fits place size fit) in
    let index-is : index ≡ index_of place index size = sym (index_fits place index size fit) in
    let count-is : index + 1 + more ≡ index + suc more = omega arith in
    record {
      text = parts ∙ rw (text_fits place e fit, ends, ← t.text) refl;
      follows = (index-is, small, subst (λ (p : ℕ). Follows p (index + 1) (map (entry_of bits) fs) (index + suc more)) (sym ends) (subst (λ (n : ℕ). Follows (place + size) (index + 1) (map (entry_of bits) fs) n) count-is t.follows));
      behind = behind;
      places = rw (here, start_fits place size fit, t.places) refl;
    }

-- a pad in front: there is a record behind it, which did not fit
took_pad_more : (bits : List ℕ) (place index more : ℕ) (bytes rest : List ℕ) (fs : List Found) → bytes ≡ pad_text (room place) index ++ rest → TookAll bits (place + room place) (index + 1) (room place) more rest fs → TookAll bits place index 0 (suc more) bytes fs
unfolding records_text Follows places_of
took_pad_more bits place index more bytes rest [] parts t = absurd (let none = t.behind in omega arith)
took_pad_more bits place index more bytes rest (f ∷ fs) parts t =
    let e = entry_of bits f in
    let size = record_size (length f.payload) in
    let off : fits_in (room place) size ≡ false = t.behind in
    let small : length f.payload ≤ 24576 = t.follows.1 in
    let fit : fits_in (room (place + room place)) size ≡ true = fits_chunk (place + room place) (length f.payload) (chunk_start place) small in
    let index-is : f.index ≡ index + 1 = t.follows.0 ∙ index_fits (place + room place) (index + 1) size fit in
    let before : f.index - 1 ≡ index = omega (arith, index-is) in
    let ends : entry_end place e ≡ place + room place + size = ap (λ (p : ℕ). p + size) (start_behind place size off) in
    let others-ends : entry_end (place + room place) e ≡ place + room place + size = ap (λ (p : ℕ). p + size) (start_fits (place + room place) size fit) in
    let count-is : index + 1 + more ≡ index + suc more = omega arith in
    let rest-is : rest ≡ record_text f.index f.payload ++ records_text (place + room place + size) (map (entry_of bits) fs) = t.text ∙ rw (text_fits (place + room place) e fit, others-ends) refl in
    record {
      text = parts ∙ rw (text_behind place e off, ends, before, rest-is, append_assoc) refl;
      follows = (index-is ∙ sym (index_behind place index size off), small, subst (λ (p : ℕ). Follows p (f.index + 1) (map (entry_of bits) fs) (index + suc more)) (others-ends ∙ sym ends) (subst (λ (n : ℕ). Follows (entry_end (place + room place) e) (f.index + 1) (map (entry_of bits) fs) n) count-is t.follows.2));
      behind = fits_none size (omega arith);
      places = t.places ∙ rw (ends, others-ends, start_fits (place + room place) size fit, start_behind place size off) refl;
    }

no_loss : (lost : ℕ) → (lost ≢ 0 → 0 < 0) → lost ≡ 0
no_loss lost h = elim (eqb_tells lost 0) [ inl e ↦ e.1 | inr e ↦ absurd (let bad = h e.1 in omega arith) ]

records_step : (bits : List ℕ) (more len place index lost : ℕ) (bytes : List ℕ) (p : Piece) (rest : List ℕ) (others : List Found) → place + length bytes ≡ len → Took len index lost more bytes rest p
    → (IsBytes rest → (place2 : ℕ) → place2 + length rest ≡ len → (lost_in p ≢ 0 → 0 < more) → TookAll bits place2 (index + 1) (lost_in p) more rest others)
    → TookAll bits place index lost (suc more) bytes (found_in p index (at len bytes) others)
records_step bits more len place index lost bytes (Update payload) rest others here took ih =
    let at-is : at len bytes ≡ place = omega (arith, here) in
    let size = record_size (length payload) in
    let fit : fits_in (room place) size ≡ true = subst (λ (a : ℕ). fits_in (room a) size ≡ true) at-is took.2 in
    let long = Takes-length bytes (record_text index payload) rest took.0 in
    let there : place + size + length rest ≡ len = omega (arith, here, long, length-record index payload) in
    took_more bits place index lost more (at len bytes) bytes rest payload others took.0.parts took.1 fit took.3 at-is (ih took.0.fits (place + size) there (λ (bad : 0 ≢ 0). absurd (bad refl)))
records_step bits more len place index lost bytes (Pad size) rest others here took ih =
    let at-is : at len bytes ≡ place = omega (arith, here) in
    let size-is : room place ≡ size = subst (λ (a : ℕ). room a ≡ size) at-is took.1 in
    let long = Takes-length bytes (pad_text size index) rest took.0 in
    let there : place + size + length rest ≡ len = omega (arith, here, long, length-pad size index took.4) in
    let t : TookAll bits (place + size) (index + 1) size more rest others = ih took.0.fits (place + size) there (λ _. took.3) in
    let parts : bytes ≡ pad_text (room place) index ++ rest = took.0.parts ∙ ap (λ (s : ℕ). pad_text s index ++ rest) (sym size-is) in
    let made : TookAll bits place index 0 (suc more) bytes others = took_pad_more bits place index more bytes rest others parts (subst (λ (s : ℕ). TookAll bits (place + s) (index + 1) s more rest others) (sym size-is) t) in
    subst (λ (l : ℕ). TookAll bits place index l (suc more) bytes others) (sym took.2) made

pub records_take : (bits : List ℕ) (count len place index lost : ℕ) (bytes : List ℕ) (fs : List Found) → IsBytes bytes → place + length bytes ≡ len → (lost ≢ 0 → 0 < count) → records_at count len index lost bytes ≡ Ok fs → TookAll bits place index lost count bytes fs
unfolding records_at records_text Follows places_of
records_take bits zero len place index lost bytes fs fits here some e =
    let n = end_takes len bytes fs e in
    let made : TookAll bits place index lost 0 [] [] = record { text = refl; follows = add-zero index; behind = no_loss lost some; places = refl } in
    subst (λ (x : List ℕ). TookAll bits place index lost 0 x fs) (sym n.0) (subst (λ (x : List Found). TookAll bits place index lost 0 [] x) (sym n.1) made)
records_take bits (suc more) len place index lost bytes fs fits here some e =
    let p = bind_ok (piece_at len index lost more bytes) (λ piece. records_at more len (index + 1) (lost_in piece.0) piece.1 >>= λ others. Ok (found_in piece.0 index (at len bytes) others)) fs e in
    let o = bind_ok (records_at more len (index + 1) (lost_in p.0.0) p.0.1) (λ others. Ok (found_in p.0.0 index (at len bytes) others)) fs p.2 in
    let took = piece_takes len index lost more bytes p.0.0 p.0.1 fits p.1 in
    let made = records_step bits more len place index lost bytes p.0.0 p.0.1 o.0 here took (λ fits2 place2 here2 some2. records_take bits more len place2 (index + 1) (lost_in p.0.0) p.0.1 o.0 fits2 here2 some2 o.1) in
    subst (λ (x : List Found). TookAll bits place index lost (suc more) bytes x) (ok_is _ fs o.2) made

-- one update record, and then others
again_more : (len index lost more at_place : ℕ) (payload rest : List ℕ) (fs : List Found) → length payload ≤ 24576 → index < 2 ^ 32 → at len (record_text index payload ++ rest) ≡ at_place → fits_in (room at_place) (record_size (length payload)) ≡ true → fits_in lost (record_size (length payload)) ≡ false
    → records_at more len (index + 1) 0 rest ≡ Ok fs → records_at (suc more) len index lost (record_text index payload ++ rest) ≡ Ok (record { index = index; at = at_place; payload = payload } ∷ fs)
unfolding records_at
again_more len index lost more at_place payload rest fs small low here fit behind others =
    let first = update_piece_again len index lost more payload rest small low (subst (λ (a : ℕ). fits_in (room a) (record_size (length payload)) ≡ true) (sym here) fit) behind in
    rw (first, others, here) refl

again_pad : (len index more place : ℕ) (rest : List ℕ) (fs : List Found) → index < 2 ^ 32 → Begins place → at len (pad_text (room place) index ++ rest) ≡ place → 0 < more
    → records_at more len (index + 1) (room place) rest ≡ Ok fs → records_at (suc more) len index 0 (pad_text (room place) index ++ rest) ≡ Ok fs
unfolding records_at
again_pad len index more place rest fs low b here left others =
    let even : room place % 8 ≡ 0 = let e = b.even in omega arith in
    let first = pad_piece_again len index more (room place) rest low even b.some (omega arith) (ap room here) left in
    rw (first, others) refl

nothing_again : (len index : ℕ) → records_at 0 len index 0 [] ≡ Ok []
unfolding records_at end_at
nothing_again len index = refl

entry_again : (count more len place index : ℕ) (e : Entry) (rest : List ℕ) (fs : List Found) → Begins place → length e.payload ≤ 24576 → e.index ≡ index_of place index (record_size (length e.payload)) → e.index < 2 ^ 32 → entry_end place e + length rest ≡ len → e.index + 1 + more ≡ index + count
    → records_at more len (e.index + 1) 0 rest ≡ Ok fs → records_at count len index 0 (entry_text place e ++ rest) ≡ Ok (record { index = e.index; at = start_of place (record_size (length e.payload)); payload = e.payload } ∷ fs)
entry_again count more len place index e rest fs b small numbered low there count-is others =
    let size = record_size (length e.payload) in
    elim (either_fits place e) [
      | inl fit ↦
          let index-is : e.index ≡ index = numbered ∙ index_fits place index size fit in
          let count2 : suc more ≡ count = omega (arith, index-is) in
          let here : at len (record_text e.index e.payload ++ rest) ≡ place = omega (arith, there, length-append (record_text e.index e.payload) rest, length-record e.index e.payload, start_fits place size fit) in
          let one = again_more len e.index 0 more place e.payload rest fs small low here fit (fits_none size (omega arith)) others in
          rw (text_fits place e fit, start_fits place size fit, ← index-is, ← count2) one
      | inr off ↦
          let index-is : e.index ≡ index + 1 = numbered ∙ index_behind place index size off in
          let count2 : suc (suc more) ≡ count = omega (arith, index-is) in
          let next = place + room place in
          let fit : fits_in (room next) size ≡ true = fits_chunk next (length e.payload) (chunk_start place) small in
          let tail = record_text e.index e.payload ++ rest in
          let here : at len tail ≡ next = omega (arith, there, length-append (record_text e.index e.payload) rest, length-record e.index e.payload, start_behind place size off) in
          let one = again_more len e.index (room place) more next e.payload rest fs small low here fit off others in
          let two : records_at (suc more) len (index + 1) (room place) tail ≡ Ok (record { index = e.index; at = next; payload = e.payload } ∷ fs) = subst (λ (i : ℕ). records_at (suc more) len i (room place) tail ≡ Ok (record { index = e.index; at = next; payload = e.payload } ∷ fs)) index-is one in
          let start : at len (pad_text (room place) index ++ tail) ≡ place = omega (arith, here, length-append (pad_text (room place) index) tail, length-pad (room place) index b.some, there, length-append (record_text e.index e.payload) rest, length-record e.index e.payload, start_behind place size off) in
          let three = again_pad len index (suc more) place tail _ (omega (arith, index-is)) b start (omega arith) two in
          let before : e.index - 1 ≡ index = omega (arith, index-is) in
          rw (text_behind place e off, start_behind place size off, before, ← count2, append_assoc) three
    ]

pub records_again : (count len place index : ℕ) (es : List Entry) (next : ℕ) → Begins place → Follows place index es next → next ≤ 256000 → next ≡ index + count → place + length (records_text place es) ≡ len → records_at count len index 0 (records_text place es) ≡ Ok (founds_of place es)
unfolding records_text Follows founds_of
records_again count len place index [] next b f low count-is here =
    let none : count ≡ 0 = omega (arith, f) in
    subst (λ (n : ℕ). records_at n len index 0 [] ≡ Ok []) (sym none) (nothing_again len index)
records_again count len place index (e ∷ es) next b f low count-is here =
    let rest = records_text (entry_end place e) es in
    let above = follows_above (entry_end place e) (e.index + 1) es next f.2 in
    let long : place + length (entry_text place e) ≡ entry_end place e = length-entry place e b in
    let there : entry_end place e + length rest ≡ len = omega (arith, here, long, length-append (entry_text place e) rest) in
    let more = next - (e.index + 1) in
    let ih = records_again more len (entry_end place e) (e.index + 1) es next (begins_entry place e b f.1) f.2 low (omega (arith, above)) there in
    entry_again count more len place index e rest (founds_of (entry_end place e) es) b f.1 f.0 (omega (arith, above)) there (omega (arith, above, count-is)) ih
