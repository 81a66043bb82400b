-- Objects and images that are read are those that were written.
use Rattle.std.proofs.Common.{◌≡◌, ℕ, ◌+◌, ◌-◌, ◌≤◌, true, List, [], ◌∷◌, ◌++◌, length, take, Option, None, Result, Ok, Err, IfOk, refl, sym, ap, subst, ◌∙◌, append_assoc, arith, length-append}
use Rattle.std.specs.Int.{w32}
use Rattle.std.specs.List.{flat_map}
use Rattle.std.specs.FinMap.{empty, entries, len}
use Rattle.std.proofs.lemmas.List.{take_at, append-nil}
use Rattle.byte_grammar.specs.Numbers.{IsBytes, word}
use Rattle.byte_grammar.proofs.Bytes.{wide32}
use Rattle.fid_space.specs.declared.fid.Fid.{Fid}
use Rattle.fid_space.specs.FidText.{IsFid}
use Rattle.tree_model.specs.Fids.{fid_cmp, name_cmp}
use Rattle.tree_model.proofs.Maps.{names_total, fids_total}
use Rattle.out_update.specs.Spelling.{fid_bytes}
use Rattle.object_store.specs.declared.fault.ImageFault.{ImageFault}
use Rattle.object_store.specs.declared.fault.ImageFault.TheVariants as fault
use Rattle.object_store.specs.Bodies.{body_bytes}
use Rattle.object_store.specs.Objects.{Object, ObjectMap}
use Rattle.object_store.specs.ImageText.{entry_text, attribute_text, object_text, image_text, FitsEntry, FitsAttribute, FitsObject, FitsObjects, spells}
use Rattle.object_store.specs.ImageReading.{Gives, at, number_at, fid_at, most32, most64, body_at, rises, items_at, entry_at, attribute_at, rising_fid_at, object_at, objects_at, image_at}
use Rattle.object_store.proofs.ImageFields.{bind_ok, guard_ok, ok_is, Takes, Takes-then, number_is, number_takes, number_again}
use Rattle.object_store.proofs.ImageBodies.{fid_takes, fid_again, any_fid, body_takes, body_again}
use Rattle.object_store.proofs.ImageOrders.{map_takes, map_again}
use Rattle.object_store.proofs.ImageItems.{entry_takes, entry_again, attribute_takes, attribute_again}

rising_takes : (len : ℕ) (last : Option Fid) (bytes : List ℕ) (f : Fid) (rest : List ℕ) → IsBytes bytes → rising_fid_at len last bytes ≡ Ok (f, rest) → Takes bytes (fid_bytes f) rest × IsFid f × (rises fid_cmp last f ≡ true)
unfolding rising_fid_at
rising_takes len last bytes f rest fits e =
    let a = bind_ok (fid_at most64 most32 len bytes) _ _ e in
    let g = guard_ok (rises fid_cmp last a.0.0) (fault.BadImage (at len bytes)) a.0 (f, rest) a.2 in
    let t = fid_takes most64 most32 len bytes a.0.0 a.0.1 fits a.1 in
    subst (λ (p : Fid × List ℕ). Takes bytes (fid_bytes p.0) p.1 × IsFid p.0 × (rises fid_cmp last p.0 ≡ true)) g.1 (t.0, t.1.is_fid, g.0)

rising_again : (len : ℕ) (last : Option Fid) (f : Fid) (rest : List ℕ) → IsFid f → rises fid_cmp last f ≡ true → rising_fid_at len last (fid_bytes f ++ rest) ≡ Ok (f, rest)
unfolding rising_fid_at
rising_again len last f rest is rise = rw (fid_again most64 most32 len f rest (any_fid f is), rise) refl

object_takes : (len : ℕ) (last : Option Fid) (bytes : List ℕ) (x : Fid × Object) (rest : List ℕ) → IsBytes bytes → object_at len last bytes ≡ Ok (x, rest) → Takes bytes (object_text x) rest × FitsObject x × (rises fid_cmp last x.0 ≡ true)
unfolding object_at object_text
object_takes size last bytes x rest fits e =
    let a = bind_ok (rising_fid_at size last bytes) _ _ e in
    let b = bind_ok (body_at size a.0.1) _ _ a.2 in
    let c = bind_ok (number_at w32 0 most32 size b.0.1) _ _ b.2 in
    let d = bind_ok (number_at w32 0 most32 size c.0.1) _ _ c.2 in
    let n = bind_ok (items_at (entry_at size) c.0.0 None empty d.0.1) _ _ d.2 in
    let v = bind_ok (items_at (attribute_at size) d.0.0 None empty n.0.1) _ _ n.2 in
    let fid = rising_takes size last bytes a.0.0 a.0.1 fits a.1 in
    let body = body_takes size a.0.1 b.0.0 b.0.1 fid.0.fits b.1 in
    let count = number_takes w32 wide32 0 most32 size b.0.1 c.0.0 c.0.1 body.0.fits c.1 in
    let other = number_takes w32 wide32 0 most32 size c.0.1 d.0.0 d.0.1 count.0.fits d.1 in
    let names = map_takes name_cmp names_total (entry_at size) entry_text FitsEntry (entry_takes size) c.0.0 d.0.1 n.0.0 n.0.1 other.0.fits n.1 in
    let values = map_takes name_cmp names_total (attribute_at size) attribute_text FitsAttribute (attribute_takes size) d.0.0 n.0.1 v.0.0 v.0.1 names.2.fits v.1 in
    let three : Takes b.0.1 (word w32 (len n.0.0)) c.0.1 = subst (λ (k : ℕ). Takes b.0.1 (word w32 k) c.0.1) (sym names.0) count.0 in
    let four : Takes c.0.1 (word w32 (len v.0.0)) d.0.1 = subst (λ (k : ℕ). Takes c.0.1 (word w32 k) d.0.1) (sym values.0) other.0 in
    let made : Fid × Object = (a.0.0, record { body = b.0.0; entries = n.0.0; attributes = v.0.0 }) in
    let is : FitsObject made = record {
      fid = fid.1;
      body = body.1;
      owner = (body.2, body.3);
      other = body.4;
      few_entries = omega (arith, names.0, count.1);
      few_attributes = omega (arith, values.0, other.1);
      each_entry = names.1;
      each_attribute = values.1;
    } in
    subst (λ (p : (Fid × Object) × List ℕ). Takes bytes (object_text p.0) p.1 × FitsObject p.0 × (rises fid_cmp last p.0.0 ≡ true)) (ok_is (made, v.0.1) (x, rest) v.2)
    (Takes-then fid.0 (Takes-then body.0 (Takes-then three (Takes-then four (Takes-then names.2 values.2)))), is, fid.2)

object_again : (len : ℕ) (last : Option Fid) (x : Fid × Object) (rest : List ℕ) → FitsObject x → rises fid_cmp last x.0 ≡ true → object_at len last (object_text x ++ rest) ≡ Ok (x, rest)
unfolding object_at object_text
object_again n last x rest fit rise =
    let r1 = flat_map attribute_text (entries x.1.attributes) ++ rest in
    let r2 = flat_map entry_text (entries x.1.entries) ++ r1 in
    let r3 = word w32 (len x.1.attributes) ++ r2 in
    let r4 = word w32 (len x.1.entries) ++ r3 in
    let r5 = body_bytes x.1.body ++ r4 in
    let few = fit.few_entries in
    let less = fit.few_attributes in
    let text : (fid_bytes x.0 ++ (body_bytes x.1.body ++ (word w32 (len x.1.entries) ++ (word w32 (len x.1.attributes) ++ (flat_map entry_text (entries x.1.entries) ++ flat_map attribute_text (entries x.1.attributes)))))) ++ rest ≡ fid_bytes x.0 ++ r5 = simp append_assoc in
    rw (
      text,
      rising_again n last x.0 r5 fit.fid rise,
      body_again n x.1.body r4 fit.body fit.owner.0 fit.owner.1 fit.other,
      number_again w32 wide32 0 most32 n (len x.1.entries) r3 (omega arith) (omega (arith, few)) few,
      number_again w32 wide32 0 most32 n (len x.1.attributes) r2 (omega arith) (omega (arith, less)) less,
      map_again name_cmp names_total (entry_at n) entry_text FitsEntry (entry_again n) x.1.entries r1 fit.each_entry,
      map_again name_cmp names_total (attribute_at n) attribute_text FitsAttribute (attribute_again n) x.1.attributes rest fit.each_attribute,
    ) refl

pub record IsImage (bytes : List ℕ) (m : ObjectMap) (used : ℕ) : Type 0 where
  pub fit : FitsObjects m
  pub rest : List ℕ
  pub parts : bytes ≡ image_text m ++ rest
  pub length_is : used ≡ length (image_text m)

pub image_takes : (bytes : List ℕ) (m : ObjectMap) (used : ℕ) → IsBytes bytes → image_at bytes ≡ Ok (m, used) → IsImage bytes m used
unfolding objects_at image_text
image_takes bytes m used fits e =
    let n = length bytes in
    let a = bind_ok (number_at w32 0 most32 (length bytes) bytes) _ _ e in
    let b = bind_ok (number_at w32 0 0 (length bytes) a.0.1) _ _ a.2 in
    let c = bind_ok (items_at (object_at (length bytes)) a.0.0 None empty b.0.1) _ _ b.2 in
    let count = number_takes w32 wide32 0 most32 (length bytes) bytes a.0.0 a.0.1 fits a.1 in
    let gap = number_takes w32 wide32 0 0 (length bytes) a.0.1 b.0.0 b.0.1 count.0.fits b.1 in
    let no_gap : b.0.0 ≡ 0 = omega (arith, (number_is w32 0 0 (length bytes) a.0.1 b.0.0 b.0.1 b.1).at_most) in
    let objects = map_takes fid_cmp fids_total (object_at (length bytes)) object_text FitsObject (object_takes (length bytes)) a.0.0 b.0.1 c.0.0 c.0.1 gap.0.fits c.1 in
    let one : Takes bytes (word w32 (len c.0.0)) a.0.1 = subst (λ (k : ℕ). Takes bytes (word w32 k) a.0.1) (sym objects.0) count.0 in
    let two : Takes a.0.1 (word w32 0) b.0.1 = subst (λ (k : ℕ). Takes a.0.1 (word w32 k) b.0.1) no_gap gap.0 in
    let all = Takes-then one (Takes-then two objects.2) in
    let long = ap length all.parts ∙ length-append (word w32 (len c.0.0) ++ (word w32 0 ++ flat_map object_text (entries c.0.0))) c.0.1 in
    let is : IsImage bytes c.0.0 (at (length bytes) c.0.1) = record {
      fit = record { few = omega (arith, objects.0, count.1); each = objects.1 };
      rest = c.0.1;
      parts = all.parts;
      length_is = omega (arith, long);
    } in
    subst (λ (p : ObjectMap × ℕ). IsImage bytes p.0 p.1) (ok_is (c.0.0, at (length bytes) c.0.1) (m, used) c.2) is

objects_again : (n : ℕ) (m : ObjectMap) (rest : List ℕ) → n ≡ length (image_text m) + length rest → FitsObjects m → objects_at n (image_text m ++ rest) ≡ Ok (m, length (image_text m))
unfolding objects_at image_text
objects_again n m rest is fit =
    let few = fit.few in
    let text : (word w32 (len m) ++ (word w32 0 ++ flat_map object_text (entries m))) ++ rest ≡ word w32 (len m) ++ (word w32 0 ++ (flat_map object_text (entries m) ++ rest)) = simp append_assoc in
    let used : n - length rest ≡ length (word w32 (len m) ++ (word w32 0 ++ flat_map object_text (entries m))) = omega (arith, is) in
    rw (
      text,
      number_again w32 wide32 0 most32 n (len m) (word w32 0 ++ (flat_map object_text (entries m) ++ rest)) (omega arith) (omega (arith, few)) few,
      number_again w32 wide32 0 0 n 0 (flat_map object_text (entries m) ++ rest) (omega arith) (omega arith) (omega arith),
      map_again fid_cmp fids_total (object_at n) object_text FitsObject (object_again n) m rest fit.each,
    ) (ap (λ (u : ℕ). Ok (m, u)) used)

pub image_again : (m : ObjectMap) (rest : List ℕ) → FitsObjects m → image_at (image_text m ++ rest) ≡ Ok (m, length (image_text m))
image_again m rest fit = objects_again (length (image_text m ++ rest)) m rest (length-append (image_text m) rest) fit

-- ---- what decoding says

pub found : (bytes : List ℕ) (r : Result (ObjectMap × ℕ) ImageFault) → IsBytes bytes → Gives {Y = ObjectMap × ℕ} (λ x. x) r (image_at bytes) → IfOk r (λ x. (x.1 ≤ length bytes) × spells x.0 (take x.1 bytes))
found bytes (Err e) fits h = tt
found bytes (Ok x) fits h =
    let is = image_takes bytes x.0 x.1 fits h in
    let long = ap length is.parts ∙ length-append (image_text x.0) is.rest in
    let size = is.length_is in
    let front : take x.1 bytes ≡ image_text x.0 = ap (take x.1) is.parts ∙ take_at (image_text x.0) is.rest x.1 (sym size) in
    (omega (arith, long, size), (is.fit, front))

pub only : (bytes : List ℕ) (r : Result (ObjectMap × ℕ) ImageFault) → Gives {Y = ObjectMap × ℕ} (λ x. x) r (image_at bytes) → (m : ObjectMap) (rest : List ℕ) → FitsObjects m → bytes ≡ image_text m ++ rest → Gives {Y = ObjectMap × ℕ} (λ x. x) r (Ok (m, length (image_text m)))
only bytes r h m rest fit is = subst (λ (read : Result (ObjectMap × ℕ) ImageFault). Gives {Y = ObjectMap × ℕ} (λ x. x) r read) (ap image_at is ∙ image_again m rest fit) h

-- ---- laws

alone : (m : ObjectMap) (bytes : List ℕ) → spells m bytes → image_at bytes ≡ Ok (m, length bytes)
alone m bytes s =
    ap image_at (s.1 ∙ sym (append-nil (image_text m))) ∙ image_again m [] s.0 ∙ ap (λ (n : ℕ). Ok (m, n)) (ap length (sym s.1))

pub one_value : (m n : ObjectMap) (bytes : List ℕ) → spells m bytes → spells n bytes → m ≡ n
one_value m n bytes s t = ap (λ (p : ObjectMap × ℕ). p.0) (ok_is (m, length bytes) (n, length bytes) (sym (alone m bytes s) ∙ alone n bytes t))

none_left : (rest : List ℕ) → length rest ≡ 0 → rest ≡ []
none_left [] e = refl
none_left (x ∷ rest) e = absurd (omega (arith, e))

pub no_prefix : (m n : ObjectMap) (bytes rest : List ℕ) → spells m bytes → spells n (bytes ++ rest) → rest ≡ []
no_prefix m n bytes rest s t =
    let front : image_at (bytes ++ rest) ≡ Ok (m, length bytes) = ap (λ (b : List ℕ). image_at (b ++ rest)) s.1 ∙ image_again m rest s.0 ∙ ap (λ (k : ℕ). Ok (m, k)) (ap length (sym s.1)) in
    let same = ap (λ (p : ObjectMap × ℕ). p.1) (ok_is (m, length bytes) (n, length (bytes ++ rest)) (sym front ∙ alone n (bytes ++ rest) t)) in
    let long = length-append bytes rest in
    none_left rest (omega (arith, same, long))
