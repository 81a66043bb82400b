-- Reading records one after the other, as a loop does.
use Rattle.std.proofs.lemmas.Bool.{lt-ltb}
use Rattle.std.proofs.lemmas.Bool.Decides.{eqb_tells}
use Rattle.std.proofs.Common.{inl, inr, eqb, ltb, not, ◌≡◌, ℕ, suc, ◌-◌, ◌+◌, ◌<◌, List, [], ◌++◌, map, Result, Ok, Err, refl, sym, ap, ◌∙◌, append_assoc, arith}
use Rattle.std.proofs.lemmas.List.{append-nil}
use Rattle.llog_store.specs.declared.fault.LlogFault.{LlogFault}
use Rattle.llog_store.specs.declared.fault.LlogFault.TheVariants as fault
use Rattle.llog_store.specs.declared.place.Place.{Place}
use Rattle.llog_store.specs.Reading.{◌>>=◌, Fails, at, Piece, Found, Update, Pad, found_in, lost_in, piece_at, end_at, records_at}
use Rattle.llog_store.specs.Views.{place_of, places_in, places_at}

-- what was found before, and what is found yet
abbrev pub with_front : List Place → Result (List Place) LlogFault → Result (List Place) LlogFault
with_front front read = read >>= λ ps. Ok (front ++ ps)

placed_in : (p : Piece) (index place : ℕ) (others : List Found) → map place_of (found_in p index place others) ≡ places_in p index place ++ map place_of others
placed_in (Update payload) index place others = refl
placed_in (Pad size) index place others = refl

regroup : (front : List Place) (p : Piece) (index place : ℕ) (read : Result (List Found) LlogFault)
    → with_front front ((read >>= λ others. Ok (found_in p index place others)) >>= λ found. Ok (map place_of found)) ≡ with_front (front ++ places_in p index place) (read >>= λ found. Ok (map place_of found))
regroup front p index place (Ok fs) = ap (λ (ps : List Place). Ok ps) (ap (λ (ps : List Place). front ++ ps) (placed_in p index place fs) ∙ sym (append_assoc front (places_in p index place) (map place_of fs)))
regroup front p index place (Err e) = refl

pub goes_on : (front : List Place) (count more len index lost : ℕ) (rest : List ℕ) (p : Piece) (after : List ℕ) (total : Result (List Place) LlogFault) → count ≡ suc more → piece_at len index lost more rest ≡ Ok (p, after)
    → with_front front (places_at count len index lost rest) ≡ total → with_front (front ++ places_in p index (at len rest)) (places_at more len (index + 1) (lost_in p) after) ≡ total
unfolding places_at records_at
goes_on front count more len index lost rest p after total k h so_far =
    let one : with_front front (places_at count len index lost rest) ≡ with_front (front ++ places_in p index (at len rest)) (places_at more len (index + 1) (lost_in p) after) = rw (k, h) (regroup front p index (at len rest) (records_at more len (index + 1) (lost_in p) after)) in
    sym one ∙ so_far

pub stops : (front : List Place) (count more len index lost : ℕ) (rest : List ℕ) (e : LlogFault) (total : Result (List Place) LlogFault) → count ≡ suc more → piece_at len index lost more rest ≡ Err e
    → with_front front (places_at count len index lost rest) ≡ total → total ≡ Err e
unfolding places_at records_at
stops front count more len index lost rest e total k h so_far =
    let one : with_front front (places_at count len index lost rest) ≡ Err e = rw (k, h) refl in
    sym so_far ∙ one

pub ended : (front : List Place) (count len index lost : ℕ) (rest : List ℕ) (total : Result (List Place) LlogFault) → count ≡ 0 → end_at len rest ≡ Ok []
    → with_front front (places_at count len index lost rest) ≡ total → total ≡ Ok front
unfolding places_at records_at
ended front count len index lost rest total k h so_far =
    let one : with_front front (places_at count len index lost rest) ≡ Ok front = rw (k, h) (ap (λ (ps : List Place). Ok ps) (append-nil front)) in
    sym so_far ∙ one

pub ends_badly : (front : List Place) (count len index lost : ℕ) (rest : List ℕ) (e : LlogFault) (total : Result (List Place) LlogFault) → count ≡ 0 → end_at len rest ≡ Err e
    → with_front front (places_at count len index lost rest) ≡ total → total ≡ Err e
unfolding places_at records_at
ends_badly front count len index lost rest e total k h so_far =
    let one : with_front front (places_at count len index lost rest) ≡ Err e = rw (k, h) refl in
    sym so_far ∙ one

pub starts : (read : Result (List Place) LlogFault) → with_front [] read ≡ read
starts (Ok ps) = refl
starts (Err e) = refl

pub fails_so : {Y : Type 0} (e : LlogFault) (read : Result Y LlogFault) → read ≡ Err e → Fails e read
fails_so fault.Memory read h = tt
fails_so (fault.BadLength n) read h = h
fails_so (fault.BadIndex n) read h = h
fails_so (fault.BadType n) read h = h
fails_so (fault.BadTail n) read h = h
fails_so (fault.BadPadding n) read h = h
fails_so (fault.BadBitmap n) read h = h
fails_so (fault.Truncated n) read h = h

-- whether the record with this index is the last
pub is_last : (index next : ℕ) → index < next → eqb (index + 1) next ≡ not (ltb 0 (next - (index + 1)))
is_last index next lt =
    elim (eqb_tells (index + 1) next) [
      | inl e ↦ let none : next - (index + 1) ≡ 0 = omega (arith, e.1) in rw (e.0, none) refl
      | inr e ↦ let differ = e.1 in let some : 0 < next - (index + 1) = omega arith in rw (e.0, lt-ltb 0 (next - (index + 1)) some) refl
    ]
