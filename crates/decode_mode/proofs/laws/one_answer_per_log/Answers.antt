use Rattle.std.proofs.Common.{◌≡◌, ◌++◌, ◌⊎◌, ℕ, List, Result, Ok, Err, refl, sym, ap, ◌∙◌, inl, inr}
use Rattle.llog_store.specs.declared.fault.LlogFault.{LlogFault}
use Rattle.llog_store.specs.Log.{Log, spells}
use Rattle.llog_store.specs.Reading.{log_at}
use Rattle.llog_store.specs.DecodedText.{decoded_text, fault_text}
use Rattle.decode_mode.specs.Lines.{rest_line}
use Rattle.decode_mode.specs.Logs.{ShowsLog, RefusesLog}
use Rattle.decode_mode.proofs.laws.one_answer_per_log.Goals as goal

some_answer : (bytes : List ℕ) (read : Result Log LlogFault) → log_at bytes ≡ read → ((log : Log) → read ≡ Ok log → spells log bytes)
    → (text : List ℕ) × (ShowsLog bytes text ⊎ RefusesLog bytes text)
some_answer bytes (Ok log) e spelled = (decoded_text log ++ rest_line 0, inl (log, spelled log refl, refl))
some_answer bytes (Err fault) e spelled = (fault_text fault, inr (fault, e, refl))

fault_in : Result Log LlogFault → LlogFault → LlogFault
fault_in (Ok log) e = e
fault_in (Err f) e = f

fault_is : (r : Result Log LlogFault) (e f : LlogFault) → r ≡ Err e → r ≡ Err f → e ≡ f
unfolding fault_in
fault_is r e f x y = sym (ap (λ (r : Result Log LlogFault). fault_in r e) x) ∙ ap (λ (r : Result Log LlogFault). fault_in r e) y

not_both : (log : Log) (e : LlogFault) → Ok log ≡ Err e → ⊥
not_both log e same = cc

pub returns : goal.returns
returns c =
    let laws = c.one_spelling_per_log.ensures in
    record {
      some = λ bytes h. some_answer bytes (log_at bytes) refl (λ log e. laws.spelled log bytes h e);
      shown_alike = λ bytes a b x y. x.2 ∙ ap (λ (log : Log). decoded_text log ++ rest_line 0) (laws.one_log x.0 y.0 bytes x.1 y.1) ∙ sym y.2;
      refused_alike = λ bytes a b x y. x.2 ∙ ap fault_text (fault_is (log_at bytes) x.0 y.0 x.1 y.1) ∙ sym y.2;
      never_both = λ bytes a b x y. not_both x.0 y.0 (sym (laws.reads x.0 bytes x.1) ∙ y.1);
    }
