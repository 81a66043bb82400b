-- That the seats and the objects of a state have an image, and what is left to ask for that the state has one.
use Rattle.std.proofs.Common.{◌≡◌, ℕ, zero, suc, ◌^◌, ◌<◌, ◌==◌, Bool, true, false, if◌then◌else◌, List, [], ◌∷◌, length, set, replicate, get_or, Option, Some, None, sym, ap, subst, arith}
use Rattle.std.specs.List.{AllByRecursion}
use Rattle.byte_grammar.specs.Numbers.{IsBytes}
use Rattle.llog_store.specs.Log.{Log, IsLog, empty_log}
use Rattle.llog_store.specs.Changes.{live_payloads}
use Rattle.object_store.specs.Objects.{ObjectMap, first_objects}
use Rattle.object_store.specs.ImageText.{image_text, FitsObjects}
use Rattle.object_store.specs.Meaning.{after_all}
use Rattle.reply_cache.specs.declared.seats.Seat.{Seat}
use Rattle.reply_cache.specs.Seats.{no_seats, refusal_of, has_later}
use Rattle.update_record.specs.declared.operation.Record.{Record}
use Rattle.update_record.specs.Spelling.{FitsRecord, record_text}
use Rattle.state_image.specs.declared.image.Image.{Image}
use Rattle.state_image.specs.FrontText.{FitsSeat}
use Rattle.state_image.specs.StateText.{AreOwn, FitsState}
use Rattle.target_state.specs.State.{TargetState, first_state}
use Rattle.target_state.specs.Image.{image_of, IsBounded, HaveImage, IsInRange}
use Rattle.target_state.specs.Opening.{restored}
use Rattle.target_state.specs.Rules.{own_seats, own_updates}
use Rattle.target_state.proofs.Bounds.{first_size}
use Rattle.target_state.proofs.Stored.{fit_after, all_fit, first_have}
use Rattle.target_state.proofs.Sounding.{own_sound}

-- at first

none_fit : (n : ℕ) → AllByRecursion FitsSeat (replicate n None)
none_fit zero = tt
none_fit (suc n) = (tt, none_fit n)

first_fit : (index : ℕ) → FitsObjects (first_objects index)
first_fit index = let small = first_size index in all_fit (first_objects index) (first_have index) (omega (arith, small))

pub first_image : (index : ℕ) (seats : List (Option Seat)) (m : ObjectMap) → seats ≡ no_seats → m ≡ first_objects index → HaveImage seats m
first_image index seats m free is = (subst (AllByRecursion FitsSeat) (sym free) (none_fit 64), subst FitsObjects (sym is) (first_fit index))

-- a part is done, and the seats are as they were
pub objects_done : (index : ℕ) (r : Record) (m0 m1 m : ObjectMap) (seats : List (Option Seat)) (log : Log) → FitsRecord r → IsBytes (record_text r) → m1 ≡ m0 → FitsObjects m0 → m ≡ after_all m1 (own_updates index r)
    → IsBounded seats m log → FitsObjects m
objects_done index r m0 m1 m seats log fits bytes is before done bounded =
    let long = ap (λ (x : ObjectMap). length (image_text x)) done in
    subst FitsObjects (sym done) (fit_after m1 (own_updates index r) (subst FitsObjects (sym is) before) (own_sound index r fits bytes) (omega (arith, long, bounded)))

-- no part is done, since there are no objects
pub objects_gone : (m : ObjectMap) → m ≡ first_objects 1 → FitsObjects m
objects_gone m is = subst FitsObjects (sym is) (first_fit 1)

-- a seat is put

seat_set : (seats : List (Option Seat)) (i : ℕ) (seat : Seat) → FitsSeat (Some seat) → AllByRecursion FitsSeat seats → AllByRecursion FitsSeat (set seats i (Some seat))
seat_set [] i seat fits all = tt
seat_set (s ∷ ss) zero seat fits all = (fits, all.1)
seat_set (s ∷ ss) (suc i) seat fits all = (all.0, seat_set ss i seat fits all.1)

own_if : (b c : Bool) (seats : List (Option Seat)) (i : ℕ) (seat : Seat) → FitsSeat (Some seat) → AllByRecursion FitsSeat seats → AllByRecursion FitsSeat (if b then (if c then seats else set seats i (Some seat)) else seats)
own_if true true seats i seat fits all = all
own_if true false seats i seat fits all = seat_set seats i seat fits all
own_if false c seats i seat fits all = all

pub seats_put : (index : ℕ) (seats new_seats : List (Option Seat)) (r : Record) → new_seats ≡ own_seats index seats r → FitsRecord r → AllByRecursion FitsSeat seats → AllByRecursion FitsSeat new_seats
seats_put index seats new_seats r put fits all =
    subst (AllByRecursion FitsSeat) (sym put)
    (own_if (r.id.master == index) (has_later (get_or seats r.client None) r.number) seats r.client (record { number = r.number; refused = refusal_of r.reply }) (fits.number_set, fits.number) all)

-- a state has an image

pub has_image : (s : TargetState) → IsInRange s → s.index < 2 ^ 8 → s.targets < 2 ^ 8 → length s.seats ≡ 64 → HaveImage s.seats s.objects → IsLog s.log → IsBounded s.seats s.objects s.log → FitsState (image_of s)
has_image s range index targets seats parts log bounded = record {
  front = record {
    epoch_set = range.epoch_set;
    epoch = range.epoch;
    index = index;
    targets = targets;
    transno = range.transno;
    clock = range.clock;
    batch_set = range.batch_set;
    batch = range.batch;
    mark = range.mark;
    seats = seats;
    each = parts.0;
  };
  objects = parts.1;
  log = log;
  short = omega (arith, bounded);
  payloads = range.own;
}

-- and one that is read is in range
pub read_in_range : (i : Image) → FitsState i → IsInRange (restored i)
read_in_range i fits = record {
  epoch_set = fits.front.epoch_set;
  epoch = fits.front.epoch;
  transno = fits.front.transno;
  clock = fits.front.clock;
  batch_set = fits.front.batch_set;
  batch = fits.front.batch;
  mark = fits.front.mark;
  own = fits.payloads;
}

none_own : (targets index : ℕ) → AreOwn targets index empty_log
unfolding live_payloads
none_own targets index = tt

pub first_in_range : (targets index : ℕ) → IsInRange (first_state targets index)
first_in_range targets index = record {
  epoch_set = omega arith;
  epoch = omega arith;
  transno = omega arith;
  clock = omega arith;
  batch_set = omega arith;
  batch = omega arith;
  mark = omega arith;
  own = none_own targets index;
}
