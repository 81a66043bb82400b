-- The lines of update records, one place after another.
use Rattle.std.proofs.Common.{◌≡◌, ℕ, ◌+◌, ◌<◌, ◌≤◌, List, ◌++◌, length, get_or, take, drop, map, sym, ap, ◌∙◌, append_assoc, arith}
use Rattle.std.specs.List.{flat_map}
use Rattle.std.proofs.lemmas.List.{take-map, length-take, length-drop, take_all, map_more, flat_map_more}
use Rattle.llog_store.specs.declared.place.Place.{Place}
use Rattle.llog_store.specs.Log.{Entry, Log, live_count}
use Rattle.llog_store.specs.Kept.{IsKept, marked, payload_in, seen, IsWithin}
use Rattle.llog_store.specs.DecodedText.{head_line, record_line, entry_line, decoded_text}
use Rattle.fid_space.specs.Fronts.{IsFront}
use Rattle.fid_space.proofs.Fronts.{front_items}
use Rattle.llog_store.proofs.Seeing.{seen_kept}

line_is : (bytes : List ℕ) (p : Place) → IsWithin (length bytes) p → entry_line (seen bytes p) ≡ record_line p.index (marked bytes p.index) p.length
unfolding entry_line
line_is bytes p within =
    let size : length (payload_in bytes p) ≡ p.length = omega (arith, length-take p.length (drop (p.at + 24) bytes), length-drop (p.at + 24) bytes, within) in
    ap (λ (n : ℕ). record_line p.index (marked bytes p.index) n) size

pub lines_more : (bytes : List ℕ) (places : List Place) (k : ℕ) (out before after : List ℕ) (d : Place) → k < length places → IsWithin (length bytes) (get_or places k d) → before ≡ out ++ flat_map entry_line (map (seen bytes) (take k places))
    → after ≡ before ++ record_line (get_or places k d).index (marked bytes (get_or places k d).index) (get_or places k d).length → after ≡ out ++ flat_map entry_line (map (seen bytes) (take (k + 1) places))
lines_more bytes places k out before after d lt within so_far added =
    let p = get_or places k d in
    added
    ∙ ap (λ (x : List ℕ). x ++ record_line p.index (marked bytes p.index) p.length) so_far
    ∙ ap (λ (x : List ℕ). (out ++ flat_map entry_line (map (seen bytes) (take k places))) ++ x) (sym (line_is bytes p within))
    ∙ flat_map_more entry_line out (map (seen bytes) (take k places)) (seen bytes p)
    ∙ ap (λ (es : List Entry). out ++ flat_map entry_line es) (sym (map_more (seen bytes) places k d lt))

pub lines_all : (bytes : List ℕ) (places : List Place) (k : ℕ) (out now : List ℕ) → length places ≤ k → now ≡ out ++ flat_map entry_line (map (seen bytes) (take k places)) → now ≡ out ++ flat_map entry_line (map (seen bytes) places)
lines_all bytes places k out now le so_far = so_far ∙ ap (λ (ps : List Place). out ++ flat_map entry_line (map (seen bytes) ps)) (take_all k places le)

pub lines_front : (bytes : List ℕ) (places : List Place) (k : ℕ) (out now after : List ℕ) → now ≡ out ++ flat_map entry_line (map (seen bytes) (take k places)) → after ≡ now → IsFront out after (flat_map entry_line (map (seen bytes) places))
lines_front bytes places k out now after so_far same =
    front_items entry_line (map (seen bytes) places) k out now after (so_far ∙ ap (λ (es : List Entry). out ++ flat_map entry_line es) (sym (take-map (seen bytes) k places))) same

-- ---- the whole text

pub text_is : (log : Log) (bytes bytes2 : List ℕ) (places places2 : List Place) (next live : ℕ) → IsKept log bytes places next live → bytes2 ≡ bytes → places2 ≡ places → head_line next live ++ flat_map entry_line (map (seen bytes2) places2) ≡ decoded_text log
unfolding decoded_text
text_is log bytes bytes2 places places2 next live k b p =
    rw (b, p, k.next_is, k.live_is) (ap (λ (es : List Entry). head_line log.next (live_count log.entries) ++ flat_map entry_line es) (seen_kept log bytes places next live k))

pub text_whole : (old mid new head lines text : List ℕ) → mid ≡ old ++ head → head ++ lines ≡ text → new ≡ mid ++ lines → new ≡ old ++ text
text_whole old mid new head lines text so_far whole added = added ∙ ap (λ (x : List ℕ). x ++ lines) so_far ∙ append_assoc old head lines ∙ ap (λ (x : List ℕ). old ++ x) whole
