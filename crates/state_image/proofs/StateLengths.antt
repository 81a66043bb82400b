-- How long a state image is.
use Rattle.std.proofs.Common.{◌≡◌, ◌+◌, ◌++◌, length, arith, length-append}
use Rattle.std.specs.Int.{w32}
use Rattle.byte_grammar.specs.Numbers.{word, zeros}
use Rattle.byte_grammar.proofs.Bytes.{wide32, length-zeros}
use Rattle.llog_store.specs.Log.{Log, log_text}
use Rattle.object_store.specs.ImageText.{image_text}
use Rattle.state_image.specs.declared.image.Image.{Image}
use Rattle.state_image.specs.FrontText.{front_text}
use Rattle.state_image.specs.StateText.{log_part, state_text}

part_length : (log : Log) → length (log_part log) ≡ 8 + length (log_text log)
unfolding log_part
part_length log =
    let a = length-append (word w32 (length (log_text log))) (zeros 4 ++ log_text log) in
    let b = length-append (zeros 4) (log_text log) in
    let w = wide32.len (length (log_text log)) in
    let z = length-zeros 4 in
    omega (arith, a, b, w, z)

pub state_length : (s : Image) → length (state_text s) ≡ length (front_text s.front) + length (image_text s.objects) + 8 + length (log_text s.log)
unfolding state_text
state_length s =
    let a = length-append (front_text s.front) (image_text s.objects ++ log_part s.log) in
    let b = length-append (image_text s.objects) (log_part s.log) in
    let c = part_length s.log in
    omega (arith, a, b, c)
