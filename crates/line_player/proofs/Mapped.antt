-- What was written under one set of rules was written under another.
use Rattle.std.proofs.Common.{◌≡◌, ℕ, Bool, List, ◌++◌, ◌⊎◌, inl, inr, arith}
use Rattle.outside.specs.Status.{code_of}
use Rattle.outside.specs.declared.status.Status.{Status}
use Rattle.outside.specs.declared.status.Status.TheVariants.{Done, Refused, Memory, Source, Sink}
use Rattle.scenario_text.specs.Refusals.{Closes}
use Rattle.line_player.specs.Played.{AreLines, Completes, LacksEnd, Played, RefusesLine, Rules, RunsAll, RunsOver, StopsNear}

-- each rule of the one gives that of the other
pub record Maps (r s : Rules) : Type 0 where
  pub ran : (lines : List (List ℕ)) (text : List ℕ) → AreLines lines → r.ran lines text → s.ran lines text
  pub ran_before : (lines : List (List ℕ)) (text : List ℕ) → AreLines lines → r.ran_before lines text → s.ran_before lines text
  pub refuses : (lines : List (List ℕ)) (text line : List ℕ) → AreLines lines → r.refuses lines text line → s.refuses lines text line
  pub ends : (over : Bool) (lines : List (List ℕ)) (text : List ℕ) → AreLines lines → r.ends over lines text → s.ends over lines text

pub same_rules : (r : Rules) → Maps r r
same_rules r = record { ran = λ ls t are h. h; ran_before = λ ls t are h. h; refuses = λ ls t l are h. h; ends = λ b ls t are h. h }

closes_mono : (A B : Type 0) → (A → B) → (read whole : List ℕ) → Closes A read whole → Closes B read whole
closes_mono A B f read whole (inl e) = inl e
closes_mono A B f read whole (inr e) = inr (f e.0, e.1, e.2)

module _ (r s : Rules) (A B : Type 0) (f : A → B) (m : Maps r s) where
  refuses : (read text : List ℕ) → RefusesLine r A read text → RefusesLine s B read text
  refuses read text x = record {
    lines = x.lines;
    before = x.before;
    ran = m.ran x.lines x.before x.are x.ran;
    are = x.are;
    short = x.short;
    line = x.line;
    feed = x.feed;
    tail = x.tail;
    split = x.split;
    one_line = x.one_line;
    one_feed = x.one_feed;
    begun = x.begun;
    cause = elim x.cause [
      | inl limit ↦ inl limit
      | inr (inl fed, bad) ↦ inr (inl fed, m.refuses x.lines x.before x.line x.are bad)
      | inr (inr ended, bad) ↦ inr (inr (ended.0, ended.1, f ended.2), m.refuses x.lines x.before x.line x.are bad)
    ];
    near = x.near;
    behind = x.behind;
    written = x.written;
  }

  lacks : (read text : List ℕ) → LacksEnd r A read text → LacksEnd s B read text
  lacks read text x = record {
    at_end = f x.at_end;
    lines = x.lines;
    before = x.before;
    closes = closes_mono A B f read _ x.closes;
    open_end = m.ends _ x.lines x.before x.are x.open_end;
    are = x.are;
    short = x.short;
    written = x.written;
  }

  over : (read text : List ℕ) → RunsOver r A read text → RunsOver s B read text
  over read text x = record {
    done = x.done;
    tail = x.tail;
    split = x.split;
    lines = x.lines;
    closes = closes_mono (A × (x.tail ≡ _)) (B × (x.tail ≡ _)) (λ e. (f e.0, e.1)) x.done _ x.closes;
    ran = m.ran_before x.lines text x.are x.ran;
    are = x.are;
    short = x.short;
  }

  full : (read text : List ℕ) → RefusesLine r A read text ⊎ LacksEnd r A read text → RefusesLine s B read text ⊎ LacksEnd s B read text
  full read text (inl x) = inl (refuses read text x)
  full read text (inr x) = inr (lacks read text x)

  pub played_map : (status : Status) (read text : List ℕ) → Played r A status read text → Played s B status read text
  played_map Done read text x = record { at_end = f x.at_end; lines = x.lines; closes = closes_mono A B f read _ x.closes; ended = m.ends _ x.lines text x.are x.ended; are = x.are; short = x.short }
  played_map Refused read text x = full read text x
  played_map Memory read text x = over read text x
  played_map Source read text x = record { lines = x.lines; rest = x.rest; whole = x.whole; partial = x.partial; ran = m.ran x.lines text x.are x.ran; are = x.are; short = x.short }
  played_map Sink read text (more, inl x) = (more, inl (over read (text ++ more) x))
  played_map Sink read text (more, inr x) = (more, inr (full read (text ++ more) x))

-- where a line was refused, it is the one that the last thing written names
pub stops_near : (r : Rules) (A : Type 0) (status : Status) (read text : List ℕ) → code_of status ≡ 2 → Played r A status read text → StopsNear A read text
stops_near r A Done read text e p = absurd (omega (arith, e))
stops_near r A Refused read text e (inl x) = inr (record {
  lines = x.lines;
  each = x.are.each;
  line = x.line;
  feed = x.feed;
  tail = x.tail;
  split = x.split;
  one_line = x.one_line;
  one_feed = x.one_feed;
  near = x.near;
  behind = x.behind;
  before = x.before;
  written = x.written;
})
stops_near r A Refused read text e (inr x) = inl x.at_end
stops_near r A Memory read text e p = absurd (omega (arith, e))
stops_near r A Source read text e p = absurd (omega (arith, e))
stops_near r A Sink read text e p = absurd (omega (arith, e))
