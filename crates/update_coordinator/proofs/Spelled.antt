-- The messages of a home have a spelling.
use Rattle.std.proofs.Common.{◌≡◌, ◌<◌, ◌≤◌, ◌^◌, ◌++◌, ◌-◌, ◌%◌, ℕ, true, false, length, List, [], ◌∷◌, refl, arith}
use Rattle.std.proofs.lemmas.List.{length-append}
use Rattle.byte_grammar.specs.Numbers.{word, zeros, padding}
use Rattle.byte_grammar.proofs.Bytes.{length-zeros}
use Rattle.out_update.specs.declared.update.Kind.{Kind}
use Rattle.out_update.specs.declared.update.Kind.TheVariants as kind
use Rattle.out_update.specs.declared.update.Update.{Update}
use Rattle.out_update.specs.declared.shape.Shape.TheVariants as shape
use Rattle.out_update.specs.Types.{is_read, shapes}
use Rattle.out_update.specs.Spelling.{param_text, params_text, updates_text, request_text, FitsParams, FitsRequest}
use Rattle.striped_dir.specs.declared.plan.Need.{Need}
use Rattle.plan_base.specs.Planners.{FitsNeed}
use Rattle.update_record.specs.declared.message.MessageKind.TheVariants as kinds
use Rattle.update_record.specs.declared.operation.Record.{Record}
use Rattle.update_record.specs.Messages.{is_sender, AsksOne, FitsMessage}
use Rattle.update_record.specs.Spelling.{record_text, FitsRecord}

-- ---- a question of one update

pad_size : (n : ℕ) → length (zeros (padding n)) ≤ 7
unfolding padding
pad_size n = omega (arith, length-zeros ((8 - n % 8) % 8))

one_size : (p : List ℕ) → length p ≤ 255 → length (param_text p ++ []) ≤ 270
unfolding word zeros
one_size p h = omega (arith, h, pad_size (length p), length-append (p ++ zeros (padding (length p))) [], length-append p (zeros (padding (length p))))

none_size : (ps : List (List ℕ)) → FitsParams [] ps → length (params_text ps) ≤ 270
unfolding FitsParams params_text
none_size [] f = omega arith
none_size (p ∷ ps) f = absurd f

name_size : (ps : List (List ℕ)) → FitsParams (shape.Name ∷ []) ps → length (params_text ps) ≤ 270
unfolding FitsParams params_text
name_size [] f = absurd f
name_size (p ∷ []) f = let a = f.0.length_allowed in one_size p (grind (arith, a))
name_size (p ∷ q ∷ ps) f = absurd f.1

false_true : {A : Type 0} → false ≡ true → A
false_true h = absurd (grind (arith, h))

params_size : (k : Kind) (ps : List (List ℕ)) → is_read k ≡ true → FitsParams (shapes k) ps → length (params_text ps) ≤ 270
params_size kind.AttrGet ps r f = none_size ps f
params_size kind.Names ps r f = none_size ps f
params_size kind.Count ps r f = none_size ps f
params_size kind.XattrGet ps r f = name_size ps f
params_size kind.Lookup ps r f = name_size ps f
params_size kind.Create ps r f = false_true r
params_size kind.Destroy ps r f = false_true r
params_size kind.RefAdd ps r f = false_true r
params_size kind.RefDel ps r f = false_true r
params_size kind.AttrSet ps r f = false_true r
params_size kind.XattrSet ps r f = false_true r
params_size kind.Insert ps r f = false_true r
params_size kind.Delete ps r f = false_true r
params_size kind.XattrDel ps r f = false_true r
params_size kind.LayoutSet ps r f = false_true r
params_size kind.ParentSet ps r f = false_true r

request_size : (u : Update) → length (params_text u.params) ≤ 270 → length (request_text (u ∷ [])) ≤ 24576
unfolding word zeros updates_text
request_size u h = omega (arith, h, length-append (params_text u.params) [])

pub one_asked : (n : Need) → FitsNeed n → FitsRequest (n.ask ∷ []) × AsksOne (n.ask ∷ [])
one_asked n a =
    (record { count = omega arith; each = (a.ask, tt); size = request_size n.ask (params_size n.ask.kind n.ask.params a.read a.ask.params) }, (omega arith, (a.read, tt)))

empty_size : length (request_text []) ≤ 24576
unfolding word zeros updates_text
empty_size = omega arith

pub none_asked : FitsRequest [] × AsksOne []
none_asked = (record { count = omega arith; each = tt; size = empty_size }, (omega arith, tt))

-- ---- messages of a home

sender : (m : ℕ) → m < 16 → is_sender m ≡ true
sender m h = grind (arith, h)

pub hold_fits : (epoch from to number attempt ask : ℕ) (us : List Update) → epoch < 2 ^ 32 → from < 16 → to < 16 → number < 2 ^ 32 → attempt < 2 ^ 64 → ask < 2 ^ 32 → FitsRequest us → AsksOne us
    → FitsMessage (record { kind = kinds.Hold; epoch = epoch; from = from; to = to; number = number; attempt = attempt; ask = ask; value = 0; body = request_text us })
hold_fits epoch from to number attempt ask us e f t n a k fits one = record {
  epoch = e;
  epoch_fits = refl;
  sender = sender from f;
  receiver = omega (arith, t);
  number = n;
  number_fits = refl;
  attempt = a;
  attempt_fits = refl;
  ask = k;
  ask_fits = refl;
  value = omega arith;
  value_fits = refl;
  size = let s = fits.size in omega (arith, s);
  body = (us, ((fits, one), refl));
}

pub sync_fits : (epoch from to number attempt ask value : ℕ) → epoch < 2 ^ 32 → from < 16 → to < 16 → number < 2 ^ 32 → attempt < 2 ^ 64 → ask < 2 ^ 32 → value < 2 ^ 32
    → FitsMessage (record { kind = kinds.Sync; epoch = epoch; from = from; to = to; number = number; attempt = attempt; ask = ask; value = value; body = [] })
sync_fits epoch from to number attempt ask value e f t n a k v = record {
  epoch = e;
  epoch_fits = refl;
  sender = sender from f;
  receiver = omega (arith, t);
  number = n;
  number_fits = refl;
  attempt = a;
  attempt_fits = refl;
  ask = k;
  ask_fits = refl;
  value = omega (arith, v);
  value_fits = refl;
  size = omega arith;
  body = refl;
}

pub execute_fits : (epoch from to number attempt : ℕ) (r : Record) → epoch < 2 ^ 32 → from < 16 → to < 16 → number < 2 ^ 32 → attempt < 2 ^ 64 → FitsRecord r
    → FitsMessage (record { kind = kinds.Execute; epoch = epoch; from = from; to = to; number = number; attempt = attempt; ask = 0; value = 0; body = record_text r })
execute_fits epoch from to number attempt r e f t n a fits = record {
  epoch = e;
  epoch_fits = refl;
  sender = sender from f;
  receiver = omega (arith, t);
  number = n;
  number_fits = refl;
  attempt = a;
  attempt_fits = refl;
  ask = omega arith;
  ask_fits = refl;
  value = omega arith;
  value_fits = refl;
  size = let s = fits.size in omega (arith, s);
  body = (r, (fits, refl));
}

pub release_fits : (epoch from to number attempt : ℕ) → epoch < 2 ^ 32 → from < 16 → to < 16 → number < 2 ^ 32 → attempt < 2 ^ 64
    → FitsMessage (record { kind = kinds.Release; epoch = epoch; from = from; to = to; number = number; attempt = attempt; ask = 0; value = 0; body = [] })
release_fits epoch from to number attempt e f t n a = record {
  epoch = e;
  epoch_fits = refl;
  sender = sender from f;
  receiver = omega (arith, t);
  number = n;
  number_fits = refl;
  attempt = a;
  attempt_fits = refl;
  ask = omega arith;
  ask_fits = refl;
  value = omega arith;
  value_fits = refl;
  size = omega arith;
  body = refl;
}
