-- What holds of the payloads of live records holds of them when the log changes.
use Rattle.std.proofs.Common.{◌≡◌, ℕ, Bool, true, false, cond, eqb, leb, List, [], ◌∷◌, ◌++◌, map, refl}
use Rattle.std.specs.List.{AllByRecursion}
use Rattle.llog_store.specs.Log.{Entry, Log, empty_log}
use Rattle.llog_store.specs.Changes.{given_index, appended, without, cancelled, all_appended, live_payloads, packed, repacked}
use Rattle.state_image.specs.StateText.{IsOwn, AreOwn}

module _ (P : List ℕ → Type 0) where
  one_more : (l : Bool) (p : List ℕ) (ps qs : List (List ℕ)) → (AllByRecursion P ps → AllByRecursion P qs) → AllByRecursion P (cond l (p ∷ ps) ps) → AllByRecursion P (cond l (p ∷ qs) qs)
  one_more true p ps qs f all = (all.0, f all.1)
  one_more false p ps qs f all = f all

  put_last : (es : List Entry) (index : ℕ) (payload : List ℕ) → AllByRecursion P (live_payloads es) → P payload → AllByRecursion P (live_payloads (es ++ record { index = index; live = true; payload = payload } ∷ []))
  unfolding live_payloads
  put_last [] index payload all one = (one, tt)
  put_last (e ∷ es) index payload all one = one_more e.live e.payload (live_payloads es) _ (λ others. put_last es index payload others one) all

  append_keeps : (log : Log) (payload : List ℕ) → AllByRecursion P (live_payloads log.entries) → P payload → AllByRecursion P (live_payloads (appended log payload).entries)
  unfolding appended
  append_keeps log payload all one = put_last log.entries (given_index log payload) payload all one

  all_keep : (log : Log) (payloads : List (List ℕ)) → AllByRecursion P (live_payloads log.entries) → AllByRecursion P payloads → AllByRecursion P (live_payloads (all_appended log payloads).entries)
  unfolding all_appended
  all_keep log [] all more = all
  all_keep log (payload ∷ payloads) all more = all_keep (appended log payload) payloads (append_keeps log payload all more.0) more.1

  cleared : (b l : Bool) (e : Entry) (ps qs : List (List ℕ)) → e.live ≡ l → (AllByRecursion P ps → AllByRecursion P qs) → AllByRecursion P (cond l (e.payload ∷ ps) ps)
      → AllByRecursion P (cond (cond b (record { index = e.index; live = false; payload = e.payload }) e).live ((cond b (record { index = e.index; live = false; payload = e.payload }) e).payload ∷ qs) qs)
  cleared true true e ps qs is f all = f all.1
  cleared true false e ps qs is f all = f all
  cleared false true e ps qs is f all = rw is (all.0, f all.1)
  cleared false false e ps qs is f all = rw is (f all)

  cancel_keeps : (index : ℕ) (es : List Entry) → AllByRecursion P (live_payloads es) → AllByRecursion P (live_payloads (map (without index) es))
  unfolding live_payloads
  cancel_keeps index [] all = tt
  cancel_keeps index (e ∷ es) all = cleared (eqb e.index index) e.live e (live_payloads es) (live_payloads (map (without index) es)) refl (cancel_keeps index es) all

  none : AllByRecursion P (live_payloads empty_log.entries)
  unfolding live_payloads
  none = tt

  kept_if : (b : Bool) (new old : Log) → AllByRecursion P (live_payloads new.entries) → AllByRecursion P (live_payloads old.entries) → AllByRecursion P (live_payloads (cond b new old).entries)
  kept_if true new old n o = n
  kept_if false new old n o = o

  pack_keeps : (log : Log) → AllByRecursion P (live_payloads log.entries) → AllByRecursion P (live_payloads (repacked log).entries)
  pack_keeps log all =
      kept_if (leb (packed log).next 256000) (packed log) log (all_keep empty_log (live_payloads log.entries) none all) all

pub own_appended : (targets index : ℕ) (log : Log) (payload : List ℕ) → AreOwn targets index log → IsOwn targets index payload → AreOwn targets index (appended log payload)
own_appended targets index = append_keeps (IsOwn targets index)

pub own_cancelled : (targets index : ℕ) (log : Log) (record_index : ℕ) → AreOwn targets index log → AreOwn targets index (cancelled log record_index)
unfolding cancelled
own_cancelled targets index log record_index = cancel_keeps (IsOwn targets index) record_index log.entries

pub own_packed : (targets index : ℕ) (log : Log) → AreOwn targets index log → AreOwn targets index (repacked log)
own_packed targets index = pack_keeps (IsOwn targets index)
