-- How long the image is.
use Rattle.std.proofs.Common.{◌≡◌, ℕ, ◌+◌, ◌-◌, ◌*◌, ◌≤◌, nat_lt, Bool, true, false, if◌then◌else◌, List, [], ◌++◌, length, drop, Some, None, refl, sym, ap, ◌∙◌, arith, append_assoc, length-append, length-take, length-drop}
use Rattle.std.proofs.lemmas.Option.{none-some, same_Some}
use Rattle.std.proofs.lemmas.Bool.{ltb-true, ltb-false}
use Rattle.byte_grammar.specs.Numbers.{word, zeros}
use Rattle.byte_grammar.proofs.Bytes.{wide32, length-zeros}
use Rattle.std.specs.Int.{w32}
use Rattle.llog_store.specs.Log.{Log, log_text}
use Rattle.llog_store.specs.Chunked.{chunk_count, chunk_at, chunk_of}
use Rattle.object_store.specs.Objects.{ObjectMap}
use Rattle.object_store.specs.ImageText.{image_text}
use Rattle.state_image.specs.declared.front.Front.{Front}
use Rattle.state_image.specs.FrontText.{front_text}
use Rattle.state_image.specs.declared.image.Image.{Image}
use Rattle.state_image.specs.StateText.{log_part}
use Rattle.state_image.specs.StateText as spelled
use Rattle.state_image.proofs.Lengths.{front_length}
use Rattle.target_state.specs.State.{TargetState}
use Rattle.target_state.specs.Image.{front_of, image_of, state_text, size_with}

part_length : (log : Log) → length (log_part log) ≡ 8 + length (log_text log)
unfolding log_part
part_length log = simp (length-append, wide32.len, length-zeros) (omega arith)

image_length : (i : Image) → length (spelled.state_text i) ≡ length (front_text i.front) + length (image_text i.objects) + 8 + length (log_text i.log)
unfolding spelled.state_text
image_length i =
    let a = length-append (front_text i.front) (image_text i.objects ++ log_part i.log) in
    let b = length-append (image_text i.objects) (log_part i.log) in
    let c = part_length i.log in
    omega (arith, a, b, c)

pub text_size : (i : Image) → length (spelled.state_text i) ≡ size_with i.front.seats i.objects i.log
text_size i =
    let a = image_length i in
    let b = front_length i.front in
    omega (arith, a, b)

pub state_length : (s : TargetState) → length (state_text s) ≡ length (front_text (front_of s)) + length (image_text s.objects) + 8 + length (log_text s.log)
state_length s = image_length (image_of s)

pub state_size : (s : TargetState) → length (state_text s) ≡ size_with s.seats s.objects s.log
state_size s = text_size (image_of s)

-- ---- the length of a log by its last chunk

picked : (b : Bool) (x y : List ℕ) → (if b then Some x else None) ≡ Some y → (b ≡ true) × (x ≡ y)
picked true x y h = (refl, same_Some x y h)
picked false x y h = absurd (none-some y h)

passed : (b : Bool) (x : List ℕ) → (if b then Some x else None) ≡ None → b ≡ false
passed true x h = absurd (none-some x (sym h))
passed false x h = refl

pub last_long : (bytes last : List ℕ) (k : ℕ) → k ≡ chunk_count bytes - 1 → chunk_of bytes k ≡ Some last → 32768 * k + length last ≡ length bytes
last_long bytes last k is there =
    let p = picked (nat_lt k (chunk_count bytes)) (chunk_at bytes k) last there in
    let low = ltb-true k (chunk_count bytes) p.0 in
    let a = length-take 32768 (drop (32768 * k) bytes) in
    let b = length-drop (32768 * k) bytes in
    let c = ap length p.1 in
    omega (arith, is, low, a, b, c)

pub no_last : (bytes : List ℕ) (k : ℕ) → k ≡ chunk_count bytes - 1 → chunk_of bytes k ≡ None → length bytes ≡ 0
no_last bytes k is there =
    let p = passed (nat_lt k (chunk_count bytes)) (chunk_at bytes k) there in
    let high = ltb-false k (chunk_count bytes) p in
    omega (arith, is, high)

-- ---- the parts of the image one behind the other

pub part_joined : (log : Log) → (word w32 (length (log_text log)) ++ zeros 4) ++ log_text log ≡ log_part log
unfolding log_part
part_joined log = append_assoc (word w32 (length (log_text log))) (zeros 4) (log_text log)

pub head_joined : (log : Log) (head : List ℕ) → head ≡ word w32 (length (log_text log)) ++ zeros 4 → head ++ log_text log ≡ log_part log
head_joined log head is = ap (λ (l : List ℕ). l ++ log_text log) is ∙ part_joined log

pub image_is : (front : Front) (objects : ObjectMap) (log : Log) (a b c d e head : List ℕ) → a ≡ [] → b ≡ a ++ front_text front → c ≡ b ++ image_text objects → d ≡ c ++ head → e ≡ d ++ log_text log
    → head ≡ word w32 (length (log_text log)) ++ zeros 4 → e ≡ spelled.state_text (record { front = front; objects = objects; log = log })
unfolding spelled.state_text
image_is front objects log a b c d e head none is_b is_c is_d is_e is_head =
    let all = is_b ∙ ap (λ (l : List ℕ). l ++ front_text front) none in
    let two = is_c ∙ ap (λ (l : List ℕ). l ++ image_text objects) all in
    is_e
    ∙ ap (λ (l : List ℕ). l ++ log_text log) (is_d ∙ ap (λ (l : List ℕ). l ++ head) two)
    ∙ append_assoc (front_text front ++ image_text objects) head (log_text log)
    ∙ ap (λ (l : List ℕ). (front_text front ++ image_text objects) ++ (l ++ log_text log)) is_head
    ∙ ap (λ (l : List ℕ). (front_text front ++ image_text objects) ++ l) (part_joined log)
    ∙ append_assoc (front_text front) (image_text objects) (log_part log)

pub last_short : (bytes last : List ℕ) (k : ℕ) → chunk_of bytes k ≡ Some last → length last ≤ 32768
last_short bytes last k there =
    let p = picked (nat_lt k (chunk_count bytes)) (chunk_at bytes k) last there in
    let a = length-take 32768 (drop (32768 * k) bytes) in
    let c = ap length p.1 in
    omega (arith, a, c)
