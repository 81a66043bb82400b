-- That an image fits a disk.
use Rattle.std.proofs.Common.{◌≡◌, ℕ, ◌+◌, ◌*◌, ◌≤◌, ◌==◌, ◌⊎◌, inl, inr, Bool, true, false, if◌then◌else◌, List, [], ◌∷◌, length, set, zero, suc, get_or, Option, Some, None, refl, sym, ap, subst, arith, length-append}
use Rattle.std.specs.FinMap.{insert, empty}
use Rattle.llog_store.specs.Bitmap.{bitmap}
use Rattle.llog_store.specs.Log.{Log, log_text, records_text, header_text, empty_log, is_live, live_count}
use Rattle.llog_store.proofs.Marks.{length-bitmap}
use Rattle.llog_store.proofs.Whole.{length-header}
use Rattle.tree_model.specs.Tree.{root_fid}
use Rattle.fid_space.specs.declared.fid.Fid.{Fid}
use Rattle.tree_model.specs.Fids.{fid_cmp, name_cmp}
use Rattle.object_store.specs.Objects.{Object, ObjectMap, first_objects, fresh, root_body}
use Rattle.object_store.specs.ImageText.{image_text}
use Rattle.object_store.specs.Sizes.{image_size, object_size, size_at, entry_size, attribute_size}
use Rattle.object_store.proofs.Images.{image_put}
use Rattle.object_store.proofs.Keeping.{total-empty}
use Rattle.object_store.proofs.Spelled.{image_length}
use Rattle.reply_cache.specs.declared.seats.Seat.{Seat}
use Rattle.reply_cache.specs.Seats.{no_seats, refusal_of, has_later}
use Rattle.update_record.specs.declared.operation.Record.{Record}
use Rattle.state_image.specs.declared.image.Image.{Image}
use Rattle.state_image.specs.FrontText.{taken_count}
use Rattle.state_image.specs.StateText as spelled
use Rattle.target_state.specs.State.{TargetState}
use Rattle.target_state.specs.Image.{state_text, most_image, most_load, size_with, IsBounded}
use Rattle.target_state.specs.Rules.{own_seats, most_redo_load, most_redo_next}
use Rattle.target_state.proofs.Lengths.{text_size, state_size}

-- at first

none_size : image_size (empty {X = Object} {R = fid_cmp}) ≡ 8
unfolding image_size
none_size = let z = total-empty {X = Object} fid_cmp size_at in omega (arith, z)

fresh_size : object_size (fresh root_body) ≡ 72
unfolding object_size
fresh_size =
    let e = total-empty {X = Fid} name_cmp entry_size in
    let a = total-empty {X = List ℕ} name_cmp attribute_size in
    omega (arith, e, a)

size_of : (b : Bool) → image_size (if b then insert empty root_fid (fresh root_body) else empty) ≤ 80
size_of true =
    let p = image_put empty root_fid (fresh root_body) in
    let s = fresh_size in
    let z = none_size in
    omega (arith, p, s, z)
size_of false = let z = none_size in omega (arith, z)

pub first_size : (index : ℕ) → length (image_text (first_objects index)) ≤ 80
first_size index = let a = image_length (first_objects index) in let b = size_of (index == 0) in omega (arith, a, b)

first_log : length (log_text empty_log) ≤ 32768
unfolding log_text records_text
first_log =
    let wide = length-bitmap (is_live []) in
    let a = length-append (header_text 1 (live_count []) (bitmap (is_live []))) [] in
    let b = length-header 1 (live_count []) (bitmap (is_live [])) wide in
    omega (arith, a, b)

none_taken : taken_count no_seats ≡ 0
none_taken = refl

pub first_bounded : (index : ℕ) (seats : List (Option Seat)) (m : ObjectMap) (log : Log) → seats ≡ no_seats → m ≡ first_objects index → log ≡ empty_log → IsBounded seats m log
first_bounded index seats m log free is begun =
    let a = ap (λ (x : ObjectMap). length (image_text x)) is in
    let b = ap (λ (l : Log). length (log_text l)) begun in
    let c = first_size index in
    let d = first_log in
    let e = ap taken_count free in
    let f = none_taken in
    omega (arith, a, b, c, d, e, f)

-- when the log is emptied

header_least : (log : Log) → 32768 ≤ length (log_text log)
unfolding log_text
header_least log =
    let bits = bitmap (is_live log.entries) in
    let a = length-append (header_text log.next (live_count log.entries) bits) (records_text 32768 log.entries) in
    let b = length-header log.next (live_count log.entries) bits (length-bitmap (is_live log.entries)) in
    omega (arith, a, b)

pub cleared_bounded : (seats : List (Option Seat)) (m : ObjectMap) (old new : Log) → new ≡ empty_log → IsBounded seats m old → IsBounded seats m new
cleared_bounded seats m old new is before =
    let a = ap (λ (l : Log). length (log_text l)) is in
    let b = first_log in
    let c = header_least old in
    omega (arith, a, b, c, before)

-- want of memory leaves the log as it is, or empty
pub left_bounded : (seats : List (Option Seat)) (m : ObjectMap) (old new : Log) → (new ≡ old) ⊎ (new ≡ empty_log) → IsBounded seats m old → IsBounded seats m new
left_bounded seats m old new left before =
    elim left [
      | inl same ↦ subst (λ (l : Log). IsBounded seats m l) (sym same) before
      | inr none ↦ cleared_bounded seats m old new none before
    ]

-- as it was read

pub read_bounded : (i : Image) (bytes : List ℕ) → bytes ≡ spelled.state_text i → length bytes ≤ most_image → IsBounded i.front.seats i.objects i.log
read_bounded i bytes is short =
    let a = ap length is in
    let b = text_size i in
    omega (arith, a, b, short)

-- where a record may be done

abbrev pub HasRoom : List (Option Seat) → ObjectMap → Log → Type 0
HasRoom seats objects log = size_with seats objects log ≤ most_redo_load

pub room_left : (s : TargetState) → length (state_text s) ≤ most_redo_load → HasRoom s.seats s.objects s.log
room_left s short = let a = state_size s in omega (arith, a, short)

-- where a record may be executed, an index is left for it
pub next_left : (s : TargetState) → 24 * s.log.next ≤ 24 + length (log_text s.log) → length (state_text s) ≤ most_load → s.log.next ≤ most_redo_next
next_left s small short = let a = state_size s in omega (arith, a, small, short)

-- a record was appended, and its part isn't done yet
pub emptied_bounded : (seats : List (Option Seat)) (m0 m : ObjectMap) (old new : Log) → m ≡ first_objects 1 → HasRoom seats m0 old → length (log_text new) ≤ length (log_text old) + 49240 → IsBounded seats m new
emptied_bounded seats m0 m old new is room more =
    let a = ap (λ (x : ObjectMap). length (image_text x)) is in
    let b = first_size 1 in
    omega (arith, a, b, room, more)

-- and is
pub done_bounded : (seats : List (Option Seat)) (m0 m1 m : ObjectMap) (old new : Log) → m1 ≡ m0 → HasRoom seats m0 old → length (image_text m) ≤ length (image_text m1) + 24576 → length (log_text new) ≤ length (log_text old) + 49240 → IsBounded seats m new
done_bounded seats m0 m1 m old new is room part more =
    let a = ap (λ (x : ObjectMap). length (image_text x)) is in
    omega (arith, a, room, part, more)

-- and its seat is put

set_taken : (seats : List (Option Seat)) (i : ℕ) (seat : Seat) → taken_count (set seats i (Some seat)) ≤ taken_count seats + 1
set_taken [] i seat = omega arith
set_taken (s ∷ ss) zero seat = omega arith
set_taken (s ∷ ss) (suc i) seat = let a = set_taken ss i seat in omega (arith, a)

put_taken : (b : Bool) (seats : List (Option Seat)) (i : ℕ) (seat : Seat) → taken_count (if b then seats else set seats i (Some seat)) ≤ taken_count seats + 1
put_taken true seats i seat = omega arith
put_taken false seats i seat = set_taken seats i seat

own_if : (b c : Bool) (seats : List (Option Seat)) (i : ℕ) (seat : Seat) → taken_count (if b then (if c then seats else set seats i (Some seat)) else seats) ≤ taken_count seats + 1
own_if true c seats i seat = put_taken c seats i seat
own_if false c seats i seat = omega arith

own_taken : (index : ℕ) (seats : List (Option Seat)) (r : Record) → taken_count (own_seats index seats r) ≤ taken_count seats + 1
own_taken index seats r = own_if (r.id.master == index) (has_later (get_or seats r.client None) r.number) seats r.client (record { number = r.number; refused = refusal_of r.reply })

pub seated_bounded : (index : ℕ) (seats new_seats : List (Option Seat)) (r : Record) (m0 m1 m : ObjectMap) (old new : Log) → new_seats ≡ own_seats index seats r → m1 ≡ m0 → HasRoom seats m0 old
    → length (image_text m) ≤ length (image_text m1) + 24576 → length (log_text new) ≤ length (log_text old) + 49240 → IsBounded new_seats m new
seated_bounded index seats new_seats r m0 m1 m old new put is room part more =
    let a = ap (λ (x : ObjectMap). length (image_text x)) is in
    let b = ap taken_count put in
    let c = own_taken index seats r in
    omega (arith, a, b, c, room, part, more)
