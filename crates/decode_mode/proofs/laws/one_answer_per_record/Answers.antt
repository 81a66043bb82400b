use Rattle.std.proofs.Common.{length, refl, sym, ap, ◌∙◌}
use Rattle.update_record.specs.Spelling.{spells_record}
use Rattle.decode_mode.specs.Records.{record_lines}
use Rattle.update_record.specs.Decoding.{judge_record}
use Rattle.decode_mode.proofs.Fronts.{fronts_alike}
use Rattle.decode_mode.proofs.Verdicts.{done_is, refused_alike, never_done, some_answer}
use Rattle.decode_mode.proofs.laws.one_answer_per_record.Goals as goal

pub returns : goal.returns
returns c =
    let laws = c.verdicts_are_of_spelled_records.ensures in
    record {
      some = λ bytes h. some_answer spells_record record_lines judge_record bytes (judge_record bytes) refl (λ k e. laws.done bytes k h e);
      shown_alike = λ bytes a b x y.
          let left = ap judge_record x.parts ∙ laws.spelled x.value x.front x.rest x.spelled in
          let right = ap judge_record y.parts ∙ laws.spelled y.value y.front y.rest y.spelled in
          fronts_alike spells_record record_lines c.one_spelling_per_record.ensures.one_value bytes a b x y (done_is (length x.front) (length y.front) (sym left ∙ right));
      refused_alike = λ bytes a b x y. refused_alike (judge_record bytes) (length bytes) a b x y;
      never_both = λ bytes a b x y. never_done (judge_record bytes) (length x.front) (length bytes) b (ap judge_record x.parts ∙ laws.spelled x.value x.front x.rest x.spelled) y;
    }
