-- How a player stops, and how it ends.
use Rattle.std.proofs.Common.{◌≡◌, ◌≢◌, ◌<◌, ◌≤◌, ◌+◌, ℕ, Bool, true, false, List, [], ◌∷◌, ◌++◌, length, ◌⊎◌, inl, inr, refl, sym, ap, ◌∙◌, subst, append_assoc, append-nil, length-append, arith}
use Rattle.std.proofs.lemmas.Bool.Decides.{eqb_tells}
use Rattle.std.specs.List.{AllByRecursion}
use Rattle.outside.specs.declared.status.Status.{Status}
use Rattle.outside.specs.declared.status.Status.TheVariants as statuses
use Rattle.scenario_text.specs.Spelling.{NoFeed}
use Rattle.scenario_text.specs.Refusals.{Closes, LacksFeed, IsWhole, PassesLimit, refusal, no_end}
use Rattle.line_player.specs.Played.{AreLines, IsLine, LacksEnd, Played, RefusesLine, Rules, Runs, RunsAll, RunsOver, bytes_of, rules_of}
use Rattle.line_player.specs.Reached.{At, Ended, StopsAt, Told, status_of}
use Rattle.line_player.specs.declared.stop.Stop.{Stop}
use Rattle.line_player.specs.declared.stop.Stop.TheVariants as stops
use Rattle.line_player.proofs.Lines.{all_append, all_push, at_line, bytes_of-push, cons_some, lacks_feed, runs_more, snoc_some}

-- a refusal, or a front of it, is written
pub told : (r : Rules) (A : Type 0) (stop : Stop) (read text whole more : List ℕ) → RefusesLine r A read (text ++ whole) ⊎ LacksEnd r A read (text ++ whole) → RunsOver r A read text → Told stop whole more → Played r A (status_of stop) read (text ++ more)
told r A stops.Refused read text whole more full runs e = subst (λ w. RefusesLine r A read (text ++ w) ⊎ LacksEnd r A read (text ++ w)) (sym e) full
told r A stops.Memory read text whole more full runs e = subst (λ t. RunsOver r A read t) (sym (ap (λ w. text ++ w) e ∙ append-nil text)) runs
told r A stops.Sink read text whole more full runs e =
    (e.0, inr (subst (λ w. RefusesLine r A read w ⊎ LacksEnd r A read w) (ap (λ w. text ++ w) e.1 ∙ sym (append_assoc text more e.0)) full))

module _ {S : Type 0} (takes : S → List ℕ → S → List ℕ → Type 0) (refuses : S → List ℕ → Type 0) (leaves : S → S → Type 0) (ended : S → Bool) (first : S) where
  abbrev rules : S → Rules
  rules new = rules_of takes refuses leaves ended first new

  -- the lines at a place are inside the limits
  are_lines : (now : S) (read text line : List ℕ) (count total : ℕ) (a : At takes first now read text line count total) → count ≤ 1000000 → AreLines a.lines
  are_lines now read text line count total a few = let c = a.counted in record { each = a.each; few = omega (arith, c, few) }

  size_of : (now : S) (read text line : List ℕ) (count total : ℕ) (a : At takes first now read text line count total) → length (bytes_of a.lines) + length line ≡ total
  size_of now read text line count total a = sym (length-append (bytes_of a.lines) line) ∙ sym (ap length a.whole) ∙ a.measured

  -- the line at a place passes a limit with a byte
  pub refuses_full : (now : S) (read text line : List ℕ) (count total b : ℕ) (tail : List ℕ) → At takes first now read text line count total → count ≤ 1000000 → total ≤ 67108864 → (1000000 ≤ count) ⊎ (67108864 ≤ total) → length (b ∷ tail) ≤ 65536
      → RefusesLine (rules now) ⊥ (read ++ b ∷ tail) (text ++ refusal (count + 1))
  refuses_full now read text line count total b tail a few small full most =
      let size = size_of now read text line count total a in
      let counted = a.counted in
      let fits = a.partial.1 in
      elim (eqb_tells b 10) [
        | inl h ↦ record {
          lines = a.lines;
          before = text;
          ran = a.ran;
          are = are_lines now read text line count total a few;
          short = omega (arith, size, small);
          line = line;
          feed = 10 ∷ [];
          tail = tail;
          split = ap (λ x. x ++ b ∷ tail) a.whole ∙ append_assoc (bytes_of a.lines) line (b ∷ tail) ∙ ap (λ x. bytes_of a.lines ++ (line ++ x ∷ tail)) h.1;
          one_line = a.partial.0;
          one_feed = inr refl;
          begun = snoc_some line 10;
          cause = inl (elim full as (λ _. PassesLimit (length a.lines + 1) line (length (bytes_of a.lines) + length line + 1)) [
            | inl low ↦ inl (omega (arith, low, counted))
            | inr all ↦ inr (inr (omega (arith, all, size)))
          ]);
          near = omega (arith, fits);
          behind = omega (arith, most);
          written = ap (λ n. text ++ refusal (n + 1)) (sym counted);
        }
        | inr h ↦
            let longer = length-append line (b ∷ []) in
            record {
              lines = a.lines;
              before = text;
              ran = a.ran;
              are = are_lines now read text line count total a few;
              short = omega (arith, size, small);
              line = line ++ b ∷ [];
              feed = [];
              tail = tail;
              split = ap (λ x. x ++ b ∷ tail) a.whole ∙ append_assoc (bytes_of a.lines) line (b ∷ tail) ∙ ap (λ x. bytes_of a.lines ++ x) (sym (append_assoc line (b ∷ []) tail));
              one_line = all_push (λ x. x ≢ 10) line b a.partial.0 h.1;
              one_feed = inl refl;
              begun = λ e. snoc_some line b (sym (append-nil (line ++ b ∷ [])) ∙ e);
              cause = inl (elim full as (λ _. PassesLimit (length a.lines + 1) (line ++ b ∷ []) (length (bytes_of a.lines) + length (line ++ b ∷ []) + 0)) [
                | inl low ↦ inl (omega (arith, low, counted))
                | inr all ↦ inr (inr (omega (arith, all, size, longer)))
              ]);
              near = omega (arith, fits, longer);
              behind = omega (arith, most);
              written = ap (λ n. text ++ refusal (n + 1)) (sym counted);
            }
      ]

  -- the line has its byte 16,385
  pub refuses_long : (now : S) (read text line : List ℕ) (count total : ℕ) (piece front tail : List ℕ) → At takes first now read text line count total → count ≤ 1000000 → total ≤ 67108864 → piece ≡ front ++ tail → NoFeed front → length (line ++ front) ≡ 16385 → length piece ≤ 65536
      → RefusesLine (rules now) ⊥ (read ++ piece) (text ++ refusal (count + 1))
  refuses_long now read text line count total piece front tail a few small is clean long most =
      let size = size_of now read text line count total a in
      let parts = ap length is ∙ length-append front tail in
      record {
        lines = a.lines;
        before = text;
        ran = a.ran;
        are = are_lines now read text line count total a few;
        short = omega (arith, size, small);
        line = line ++ front;
        feed = [];
        tail = tail;
        split = (λ i. a.whole i ++ is i) ∙ append_assoc (bytes_of a.lines) line (front ++ tail) ∙ ap (λ x. bytes_of a.lines ++ x) (sym (append_assoc line front tail));
        one_line = all_append (λ x. x ≢ 10) line front a.partial.0 clean;
        one_feed = inl refl;
        begun = λ e. cons_some (line ++ front) (omega (arith, long)) (sym (append-nil (line ++ front)) ∙ e);
        cause = inl (inr (inl (omega (arith, long))));
        near = omega (arith, long);
        behind = omega (arith, parts, most);
        written = ap (λ n. text ++ refusal (n + 1)) (sym a.counted);
      }

  -- the line is whole, and none that may come
  pub refuses_whole : (A : Type 0) (now : S) (read text line : List ℕ) (count total : ℕ) (front feed tail : List ℕ) → At takes first now read text line count total → count ≤ 1000000 → total ≤ 67108864 → NoFeed front → length (line ++ front) ≤ 16384
      → (feed ≡ []) ⊎ (feed ≡ 10 ∷ []) → (line ++ front) ++ feed ≢ [] → IsWhole A (line ++ front) feed tail → length tail ≤ 65536 → refuses now (line ++ front)
      → RefusesLine (rules now) A (read ++ (front ++ (feed ++ tail))) (text ++ refusal (count + 1))
  refuses_whole A now read text line count total front feed tail a few small clean short one some whole most bad =
      let size = size_of now read text line count total a in
      record {
        lines = a.lines;
        before = text;
        ran = a.ran;
        are = are_lines now read text line count total a few;
        short = omega (arith, size, small);
        line = line ++ front;
        feed = feed;
        tail = tail;
        split = ap (λ x. x ++ (front ++ (feed ++ tail))) a.whole ∙ append_assoc (bytes_of a.lines) line (front ++ (feed ++ tail)) ∙ ap (λ x. bytes_of a.lines ++ x) (sym (append_assoc line front (feed ++ tail)));
        one_line = all_append (λ x. x ≢ 10) line front a.partial.0 clean;
        one_feed = one;
        begun = some;
        cause = inr (whole, (a.ran, bad));
        near = omega (arith, short);
        behind = most;
        written = ap (λ n. text ++ refusal (n + 1)) (sym a.counted);
      }

  -- the lines that ended were run, and the state may have changed since
  pub runs_over : (A : Type 0) (mid now : S) (read text line : List ℕ) (count total : ℕ) (tail : List ℕ) → At takes first mid read text line count total → count ≤ 1000000 → total ≤ 67108864 → (now ≡ mid) ⊎ leaves mid now → RunsOver (rules now) A (read ++ tail) text
  runs_over A mid now read text line count total tail a few small came =
      let size = size_of mid read text line count total a in
      record {
        done = bytes_of a.lines;
        tail = line ++ tail;
        split = ap (λ x. x ++ tail) a.whole ∙ append_assoc (bytes_of a.lines) line tail;
        lines = a.lines;
        closes = inl refl;
        ran = (mid, a.ran, came);
        are = are_lines mid read text line count total a few;
        short = omega (arith, size, small);
      }

  -- the player stops at a line: its end is in the piece, or the last bytes lack it
  stops_with : (A : Type 0) (stop : Stop) (old new : S) (read text line : List ℕ) (count total : ℕ) (front feed tail more : List ℕ) → At takes first old read text line count total → count < 1000000 → total ≤ 67108864 → NoFeed front → length (line ++ front) ≤ 16384
      → (feed ≡ []) ⊎ (feed ≡ 10 ∷ []) → (line ++ front) ++ feed ≢ [] → IsWhole A (line ++ front) feed tail → length tail ≤ 65536
      → StopsAt takes refuses leaves stop old new (line ++ front) (count + 1) more
      → ((whole : List ℕ) → takes old (line ++ front) new whole → RunsOver (rules new) A (read ++ (front ++ (feed ++ tail))) (text ++ whole))
      → Played (rules new) A (status_of stop) (read ++ (front ++ (feed ++ tail))) (text ++ more)
  stops_with A stops.Refused old new read text line count total front feed tail more a few small clean short one some whole most s ran =
      let all : List ℕ = read ++ (front ++ (feed ++ tail)) in
      subst (λ n. Played (rules n) A statuses.Refused all (text ++ more)) (sym s.1)
      (subst (λ m. Played (rules old) A statuses.Refused all (text ++ m)) (sym s.2)
      (inl (refuses_whole A old read text line count total front feed tail a (omega (arith, few)) small clean short one some whole most s.0)))
  stops_with A stops.Memory old new read text line count total front feed tail more a few small clean short one some whole most s ran =
      subst (λ t. RunsOver (rules new) A (read ++ (front ++ (feed ++ tail))) t) (sym (ap (λ w. text ++ w) s.1 ∙ append-nil text))
      (runs_over A old new read text line count total (front ++ (feed ++ tail)) a (omega (arith, few)) small s.0)
  stops_with A stops.Sink old new read text line count total front feed tail more a few small clean short one some whole most (full, left, e, inl t) ran =
      (left, inl (subst (λ w. RunsOver (rules new) A (read ++ (front ++ (feed ++ tail))) w) (ap (λ w. text ++ w) e ∙ sym (append_assoc text more left)) (ran full t)))
  stops_with A stops.Sink old new read text line count total front feed tail more a few small clean short one some whole most (full, left, e, inr (bad, same, is)) ran =
      let all : List ℕ = read ++ (front ++ (feed ++ tail)) in
      subst (λ n. Played (rules n) A statuses.Sink all (text ++ more)) (sym same)
      (told (rules old) A stops.Sink all text full more
      (inl (subst (λ w. RefusesLine (rules old) A all (text ++ w)) (sym is) (refuses_whole A old read text line count total front feed tail a (omega (arith, few)) small clean short one some whole most bad)))
      (runs_over A old old read text line count total (front ++ (feed ++ tail)) a (omega (arith, few)) small (inl refl)) (left, e))

  -- at a line whose end is in the piece
  pub stops_feed : (stop : Stop) (old new : S) (read text line : List ℕ) (count total : ℕ) (front tail more : List ℕ) → At takes first old read text line count total → count < 1000000 → total + (length front + 1) ≤ 67108864 → NoFeed front → length (line ++ front) ≤ 16384
      → length tail ≤ 65536 → StopsAt takes refuses leaves stop old new (line ++ front) (count + 1) more → Played (rules new) ⊥ (status_of stop) (read ++ (front ++ 10 ∷ tail)) (text ++ more)
  stops_feed stop old new read text line count total front tail more a few small clean short most s =
      stops_with ⊥ stop old new read text line count total front (10 ∷ []) tail more a few (omega (arith, small)) clean short (inr refl) (snoc_some (line ++ front) 10) (inl refl) most s over
    where
      over : (whole : List ℕ) → takes old (line ++ front) new whole → RunsOver (rules new) ⊥ (read ++ (front ++ 10 ∷ tail)) (text ++ whole)
      over whole t =
          let b = at_line takes first old new read text line front whole count total a clean short t in
          let done : List ℕ = read ++ (front ++ 10 ∷ []) in
          record {
            done = done;
            tail = tail;
            split = ap (λ x. read ++ x) (sym (append_assoc front (10 ∷ []) tail)) ∙ sym (append_assoc read (front ++ 10 ∷ []) tail);
            lines = b.lines;
            closes = inl (sym (b.whole ∙ append-nil (bytes_of b.lines)));
            ran = (new, b.ran, inl refl);
            are = are_lines new done (text ++ whole) [] (count + 1) (total + (length front + 1)) b (omega (arith, few));
            short = (let m = b.measured in omega (arith, m, small));
          }

  -- at the last line, which lacks its line feed
  pub stops_last : (stop : Stop) (old new : S) (read text line : List ℕ) (count total : ℕ) (more : List ℕ) → At takes first old read text line count total → count < 1000000 → total ≤ 67108864 → line ≢ [] → StopsAt takes refuses leaves stop old new line (count + 1) more
      → Played (rules new) (Unit {0}) (status_of stop) read (text ++ more)
  stops_last stop old new read text line count total more a few small some s =
      let one : line ++ [] ≡ line = append-nil line in
      subst (λ x. Played (rules new) (Unit {0}) (status_of stop) x (text ++ more)) (append-nil read)
      (stops_with (Unit {0}) stop old new read text line count total [] [] [] more a few small tt (subst (λ l. length l ≤ 16384) (sym one) a.partial.1) (inl refl) (λ e. some (sym (append-nil line) ∙ sym (append-nil (line ++ [])) ∙ e)) (inr (refl, refl, tt)) (omega arith)
      (subst (λ l. StopsAt takes refuses leaves stop old new l (count + 1) more) (sym one) s) over)
    where
      over : (whole : List ℕ) → takes old (line ++ []) new whole → RunsOver (rules new) (Unit {0}) (read ++ []) (text ++ whole)
      over whole t =
          let b = at_line takes first old new read text line [] whole count total a tt (subst (λ l. length l ≤ 16384) (sym (append-nil line)) a.partial.1) t in
          let lacks = subst (λ x. LacksFeed x) (sym a.whole) (lacks_feed (bytes_of a.lines) line a.partial.0 some) in
          record {
            done = read;
            tail = [];
            split = refl;
            lines = b.lines;
            closes = inr ((tt, refl), lacks, sym (b.whole ∙ append-nil (bytes_of b.lines)));
            ran = (new, b.ran, inl refl);
            are = are_lines new (read ++ 10 ∷ []) (text ++ whole) [] (count + 1) (total + 1) b (omega (arith, few));
            short = (let m = a.measured in omega (arith, m, small));
          }

  -- where the input failed
  pub runs_all : (now : S) (read text line : List ℕ) (count total : ℕ) → At takes first now read text line count total → count ≤ 1000000 → total ≤ 67108864 → RunsAll (rules now) read text
  runs_all now read text line count total a few small = record {
    lines = a.lines;
    rest = line;
    whole = a.whole;
    partial = a.partial;
    ran = a.ran;
    are = are_lines now read text line count total a few;
    short = (let m = a.measured in omega (arith, m, small));
  }

  -- at the end of all bytes
  pub ended_here : (now : S) (read text : List ℕ) (line : List ℕ) (count total : ℕ) → At takes first now read text line count total → total ≤ 67108864 → line ≡ [] → Ended takes first now read (text ++ []) count
  ended_here now read text line count total a small none = record {
    lines = a.lines;
    closes = inl (sym (a.whole ∙ ap (λ l. bytes_of a.lines ++ l) none ∙ append-nil (bytes_of a.lines)));
    ran = subst (λ t. Runs takes first a.lines now t) (sym (append-nil text)) a.ran;
    each = a.each;
    counted = a.counted;
    short = (let m = a.measured in omega (arith, m, small));
  }

  pub ended_last : (old new : S) (read text line : List ℕ) (count total : ℕ) (more : List ℕ) → At takes first old read text line count total → total ≤ 67108864 → line ≢ [] → takes old line new more → Ended takes first new read (text ++ more) (count + 1)
  ended_last old new read text line count total more a small some t =
      let one : line ++ [] ≡ line = append-nil line in
      let b = at_line takes first old new read text line [] more count total a tt (subst (λ l. length l ≤ 16384) (sym one) a.partial.1) (subst (λ l. takes old l new more) (sym one) t) in
      record {
        lines = b.lines;
        closes = inr (tt, subst (λ x. LacksFeed x) (sym a.whole) (lacks_feed (bytes_of a.lines) line a.partial.0 some), sym (b.whole ∙ append-nil (bytes_of b.lines)));
        ran = b.ran;
        each = b.each;
        counted = b.counted;
        short = (let m = a.measured in omega (arith, m, small));
      }

  pub ends_done : (now : S) (read text : List ℕ) (count : ℕ) → Ended takes first now read text count → count ≤ 1000000 → ended now ≡ true → Played (rules now) (Unit {0}) statuses.Done read (text ++ [])
  ends_done now read text count e few over = record {
    at_end = tt;
    lines = e.lines;
    closes = e.closes;
    ended = (subst (λ t. Runs takes first e.lines now t) (sym (append-nil text)) e.ran, over);
    are = (let c = e.counted in record { each = e.each; few = omega (arith, c, few) });
    short = e.short;
  }

  pub ends_lacking : (stop : Stop) (now : S) (read text more : List ℕ) (count : ℕ) → Ended takes first now read text count → count ≤ 1000000 → ended now ≡ false → Told stop (no_end (count + 1)) more → Played (rules now) (Unit {0}) (status_of stop) read (text ++ more)
  ends_lacking stop now read text more count e few going says =
      let are : AreLines e.lines = (let c = e.counted in record { each = e.each; few = omega (arith, c, few) }) in
      told (rules now) (Unit {0}) stop read text (no_end (count + 1)) more
      (inr (record { at_end = tt; lines = e.lines; before = text; closes = e.closes; open_end = (e.ran, going); are = are; short = e.short; written = ap (λ n. text ++ no_end (n + 1)) (sym e.counted) }))
      (record {
        done = read;
        tail = [];
        split = sym (append-nil read);
        lines = e.lines;
        closes = elim e.closes [
          | inl same ↦ inl same
          | inr closed ↦ inr ((closed.0, refl), closed.1, closed.2)
        ];
        ran = (now, e.ran, inl refl);
        are = are;
        short = e.short;
      })
      says

pub refused_at : {S : Type 0} (takes : S → List ℕ → S → List ℕ → Type 0) (refuses : S → List ℕ → Type 0) (leaves : S → S → Type 0) (stop : Stop) (old : S) (line : List ℕ) (number : ℕ) (more : List ℕ) → refuses old line → Told stop (refusal number) more
    → StopsAt takes refuses leaves stop old old line number more
refused_at takes refuses leaves stops.Refused old line number more bad e = (bad, refl, e)
refused_at takes refuses leaves stops.Memory old line number more bad e = (inl refl, e)
refused_at takes refuses leaves stops.Sink old line number more bad e = (refusal number, e.0, e.1, inr (bad, refl, refl))

pub played_as : (r : Rules) (A : Type 0) (status s : Status) (read x text t : List ℕ) → status ≡ s → read ≡ x → text ≡ t → Played r A s x t → Played r A status read text
played_as r A status s read x text t e f h p = subst (λ y. Played r A status y text) (sym f) (subst (λ y. Played r A status x y) (sym h) (subst (λ y. Played r A y x t) (sym e) p))

-- want of memory before anything is read
pub starts_short : {S : Type 0} (takes : S → List ℕ → S → List ℕ → Type 0) (refuses : S → List ℕ → Type 0) (leaves : S → S → Type 0) (ended : S → Bool) (A : Type 0) (first : S) → RunsOver (rules_of takes refuses leaves ended first first) A [] []
starts_short takes refuses leaves ended A first = record { done = []; tail = []; split = refl; lines = []; closes = inl refl; ran = (first, (refl, refl), inl refl); are = record { each = tt; few = omega arith }; short = omega arith }
