-- A state image that is read was written so.
use Rattle.std.proofs.Common.{◌≡◌, ℕ, ◌+◌, ◌-◌, ◌==◌, ◌^◌, ◌<◌, ◌≤◌, List, [], ◌++◌, length, take, drop, Some, None, Result, Ok, Err, refl, sym, ap, ◌∙◌, subst}
use Rattle.std.specs.Int.{w32}
use Rattle.std.proofs.lemmas.Bool.{eqb-true}
use Rattle.std.proofs.lemmas.List.{append-nil, drop_at, nil_from_length}
use Rattle.byte_grammar.specs.Numbers.{IsBytes, word}
use Rattle.byte_grammar.specs.declared.verdict.Verdict.TheVariants as verdict
use Rattle.byte_grammar.proofs.Bytes.{wide32, IsBytes-drop}
use Rattle.llog_store.specs.Log.{Log, IsLog, log_text, spells}
use Rattle.llog_store.specs.declared.fault.LlogFault.{LlogFault}
use Rattle.llog_store.specs.declared.fault.LlogFault.TheVariants as llog
use Rattle.llog_store.specs.Reading.{log_at}
use Rattle.llog_store.specs.Changes.{live_payload, live_place}
use Rattle.object_store.specs.declared.fault.ImageFault.TheVariants as fault
use Rattle.object_store.specs.Objects.{ObjectMap}
use Rattle.object_store.specs.ImageText.{image_text, FitsObjects}
use Rattle.object_store.specs.ImageReading.{at, field_at, number_at, zeros_at, most32, image_at}
use Rattle.object_store.proofs.ImageFields.{bind_ok, guard_ok, ok_is, Takes, Takes-then, field_takes, number_takes, zeros_take}
use Rattle.update_record.specs.declared.operation.Record.{Record}
use Rattle.update_record.specs.Spelling.{record_text, FitsRecord, spells_record}
use Rattle.update_record.specs.Values.{record_value}
use Rattle.update_record.specs.Decoding.{judge_record}
use Rattle.state_image.specs.declared.image.Image.{Image}
use Rattle.state_image.specs.FrontText.{front_text}
use Rattle.state_image.specs.FrontReading.{front_in}
use Rattle.state_image.specs.StateText.{log_part, state_text, AreOwn, FitsState}
use Rattle.state_image.specs.StateReading.{moved_by, of_log, payloads_at, objects_in, own_log, log_in, image_in}
use Rattle.state_image.proofs.Only.{front_takes}
use Rattle.state_image.proofs.Owning.{moved_ok, payloads_only}

behind : (bytes text rest : List ℕ) → IsBytes bytes → bytes ≡ text ++ rest → Takes bytes text rest
behind bytes text rest fits parts =
    let is : drop (length text) bytes ≡ rest = ap (drop (length text)) parts ∙ drop_at text rest (length text) refl in
    record { parts = parts; fits = subst IsBytes is (IsBytes-drop (length text) bytes fits) }

log_ok : (r : Result Log LlogFault) (log : Log) → of_log r ≡ Ok log → r ≡ Ok log
log_ok (Ok x) log e = ap (λ (y : Log). Ok y) (ok_is x log e)
log_ok (Err (llog.BadLength p)) log e = absurd cc
log_ok (Err (llog.BadIndex p)) log e = absurd cc
log_ok (Err (llog.BadType p)) log e = absurd cc
log_ok (Err (llog.BadTail p)) log e = absurd cc
log_ok (Err (llog.BadPadding p)) log e = absurd cc
log_ok (Err (llog.BadBitmap p)) log e = absurd cc
log_ok (Err (llog.Truncated p)) log e = absurd cc
log_ok (Err llog.Memory) log e = absurd cc

record AreObjects (bytes : List ℕ) (m : ObjectMap) (rest : List ℕ) : Type 0 where
  fits : FitsObjects m
  text : Takes bytes (image_text m) rest

record IsOwnLog (targets index : ℕ) (bytes : List ℕ) (log : Log) : Type 0 where
  spells : spells log bytes
  own : AreOwn targets index log

record IsPart (targets index : ℕ) (bytes : List ℕ) (log : Log) (rest : List ℕ) : Type 0 where
  is : IsLog log
  short : length (log_text log) < 2 ^ 32
  own : AreOwn targets index log
  text : Takes bytes (log_part log) rest

-- by what is proved of the spellings of objects, logs and records
module _
    (objects_take : (bytes : List ℕ) (m : ObjectMap) (used : ℕ) → IsBytes bytes → image_at bytes ≡ Ok (m, used) → FitsObjects m × (rest : List ℕ) × (bytes ≡ image_text m ++ rest) × (used ≡ length (image_text m)))
    (log_spelled : (log : Log) (bytes : List ℕ) → IsBytes bytes → log_at bytes ≡ Ok log → spells log bytes)
    (both : (log : Log) (i : ℕ) → live_place 32768 i log.entries ≡ None → live_payload i log.entries ≡ None)
    (stands : (log : Log) (i by : ℕ) (payload : List ℕ) → IsLog log → live_place 32768 i log.entries ≡ Some by → live_payload i log.entries ≡ Some payload → take (length payload) (drop by (log_text log)) ≡ payload)
    (alone : (r : Record) → FitsRecord r → record_value (record_text r) ≡ Some r)
    (done : (bytes : List ℕ) (k : ℕ) → IsBytes bytes → judge_record bytes ≡ verdict.Done k → (r : Record) × spells_record r (take k bytes) × (k ≤ length bytes)) where
  objects_only : (len : ℕ) (bytes : List ℕ) (m : ObjectMap) (rest : List ℕ) → IsBytes bytes → objects_in len bytes ≡ Ok (m, rest) → AreObjects bytes m rest
  unfolding objects_in
  objects_only len bytes m rest fits e =
      let a = bind_ok (moved_by (at len bytes) (image_at bytes)) _ _ e in
      let t = objects_take bytes a.0.0 a.0.1 fits (moved_ok (at len bytes) (image_at bytes) a.0 a.1) in
      let left : drop a.0.1 bytes ≡ t.1 = ap (drop a.0.1) t.2 ∙ drop_at (image_text a.0.0) t.1 a.0.1 (sym t.3) in
      let is : AreObjects bytes a.0.0 (drop a.0.1 bytes) = record { fits = t.0; text = behind bytes (image_text a.0.0) (drop a.0.1 bytes) fits (t.2 ∙ ap (λ (r : List ℕ). image_text a.0.0 ++ r) (sym left)) } in
      subst (λ (p : ObjectMap × List ℕ). AreObjects bytes p.0 p.1) (ok_is (a.0.0, drop a.0.1 bytes) (m, rest) a.2) is

  own_only : (targets index : ℕ) (bytes : List ℕ) (log : Log) → IsBytes bytes → own_log targets index bytes ≡ Ok log → IsOwnLog targets index bytes log
  unfolding own_log
  own_only targets index bytes log fits e =
      let a = bind_ok (of_log (log_at bytes)) _ _ e in
      let b = bind_ok (payloads_at targets index a.0.entries 0 a.0.next) _ _ a.2 in
      let s = log_spelled a.0 bytes fits (log_ok (log_at bytes) a.0 a.1) in
      let text-fits = subst IsBytes s.1 fits in
      let own = payloads_only alone done targets index a.0 (log_text a.0) text-fits s.0.follows (both a.0) (λ i by payload. stands a.0 i by payload s.0) b.1 in
      let is : IsOwnLog targets index bytes a.0 = record { spells = s; own = own } in
      subst (IsOwnLog targets index bytes) (ok_is a.0 log b.2) is

  log_only : (targets index len : ℕ) (bytes : List ℕ) (log : Log) (rest : List ℕ) → IsBytes bytes → log_in targets index len bytes ≡ Ok (log, rest) → IsPart targets index bytes log rest
  unfolding log_in log_part
  log_only targets index len bytes log rest fits e =
      let a = bind_ok (number_at w32 0 most32 len bytes) _ _ e in
      let b = bind_ok (zeros_at len 4 a.0.1) _ _ a.2 in
      let c = bind_ok (field_at len a.0.0 b.0) _ _ b.2 in
      let d = bind_ok (moved_by (at len b.0) (own_log targets index c.0.0)) _ _ c.2 in
      let size = number_takes w32 wide32 0 most32 len bytes a.0.0 a.0.1 fits a.1 in
      let space = zeros_take len 4 a.0.1 b.0 size.0.fits b.1 in
      let text = field_takes len a.0.0 b.0 c.0.0 c.0.1 space.fits c.1 in
      let own = own_only targets index c.0.0 d.0 text.2 (moved_ok (at len b.0) (own_log targets index c.0.0) d.0 d.1) in
      let size-is : a.0.0 ≡ length (log_text d.0) = sym text.1 ∙ ap length own.spells.1 in
      let one : Takes bytes (word w32 (length (log_text d.0))) a.0.1 = subst (λ (n : ℕ). Takes bytes (word w32 n) a.0.1) size-is size.0 in
      let three : Takes b.0 (log_text d.0) c.0.1 = subst (λ (t : List ℕ). Takes b.0 t c.0.1) own.spells.1 text.0 in
      let is : IsPart targets index bytes d.0 c.0.1 = record {
        is = own.spells.0;
        short = subst (λ (n : ℕ). n < 2 ^ 32) size-is size.1;
        own = own.own;
        text = Takes-then one (Takes-then space three);
      } in
      subst (λ (p : Log × List ℕ). IsPart targets index bytes p.0 p.1) (ok_is (d.0, c.0.1) (log, rest) d.2) is

  pub state_only : (targets index : ℕ) (bytes : List ℕ) (s : Image) → IsBytes bytes → targets < 256 → index < 256 → image_in targets index bytes ≡ Ok s → FitsState s × (s.front.cluster ≡ targets) × (s.front.index ≡ index) × (bytes ≡ state_text s)
  unfolding image_in state_text
  state_only targets index bytes s fits few small e =
      let len = length bytes in
      let a = bind_ok (front_in targets index (length bytes) bytes) _ _ e in
      let b = bind_ok (objects_in (length bytes) a.0.1) _ _ a.2 in
      let c = bind_ok (log_in targets index (length bytes) b.0.1) _ _ b.2 in
      let made : Image = record { front = a.0.0; objects = b.0.0; log = c.0.0 } in
      let g = guard_ok (length c.0.1 == 0) (fault.BadImage (length bytes)) made s c.2 in
      let none : c.0.1 ≡ [] = nil_from_length c.0.1 (eqb-true (length c.0.1) 0 g.0) in
      let front = front_takes targets index (length bytes) bytes a.0.0 a.0.1 fits few small a.1 in
      let first = behind bytes (front_text a.0.0) a.0.1 fits front.parts in
      let objects = objects_only (length bytes) a.0.1 b.0.0 b.0.1 first.fits b.1 in
      let log = log_only targets index (length bytes) b.0.1 c.0.0 c.0.1 objects.text.fits c.1 in
      let whole = Takes-then first (Takes-then objects.text log.text) in
      let text : bytes ≡ front_text a.0.0 ++ (image_text b.0.0 ++ log_part c.0.0) =
      whole.parts ∙ ap (λ (r : List ℕ). (front_text a.0.0 ++ (image_text b.0.0 ++ log_part c.0.0)) ++ r) none ∙ append-nil (front_text a.0.0 ++ (image_text b.0.0 ++ log_part c.0.0)) in
      let own : AreOwn a.0.0.cluster a.0.0.index c.0.0 = rw (front.cluster, front.index_is) log.own in
      let is : FitsState made = record { front = front.fits; objects = objects.fits; log = log.is; short = log.short; payloads = own } in
      subst (λ (x : Image). FitsState x × (x.front.cluster ≡ targets) × (x.front.index ≡ index) × (bytes ≡ front_text x.front ++ (image_text x.objects ++ log_part x.log))) g.1 (is, front.cluster, front.index_is, text)
