use Rattle.std.proofs.Common.{◌≡◌, ◌+◌, ◌-◌, ◌*◌, ◌/◌, ◌%◌, ◌^◌, ◌<◌, ap, ◌∙◌, arith}
use Rattle.word.specs.Bytes.{packed}
use Rattle.word.specs.Field.{before, width, stored_bytes}
use Rattle.word.specs.Word.{bytes_of}
use Rattle.word.proofs.Cuts.{stored_value, stored_small, stored_back}
use Rattle.word.proofs.fields.splice.Goals as goal

-- the number that the code works out, in one
known : (c : goal.After-from) → c.from-m.result / c.power-high.result * c.power-high.result + c.from.result % c.power-span.result * c.power-low.result + c.from-m.result % c.power-low.result ≡ packed (stored_bytes c.args.field.left c.args.field.right (bytes_of c.args.register) (bytes_of c.args.word))
known c =
    let f = c.args.field in
    let high : c.power-high.result ≡ 64 ^ (5 - before f.left) = c.power-high.ensures.exact (omega arith) ∙ ap (λ n. 64 ^ n) (omega arith) in
    let span : c.power-span.result ≡ 64 ^ width f.left f.right = c.power-span.ensures.exact (omega arith) ∙ ap (λ n. 64 ^ n) c.width.ensures in
    let low : c.power-low.result ≡ 64 ^ (5 - f.right) = c.power-low.ensures.exact (omega arith) ∙ ap (λ n. 64 ^ n) c.after.ensures in
    cc (stored_value f c.args.register.magnitude c.args.word.magnitude c.args.register.small c.args.word.small)

-- and it is below 2^30
below : (c : goal.After-from) → packed (stored_bytes c.args.field.left c.args.field.right (bytes_of c.args.register) (bytes_of c.args.word)) < 2 ^ 30
below c = stored_small c.args.field c.args.register.magnitude c.args.word.magnitude

pub overflow_mul-result-2 : goal.overflow_mul-result-2
overflow_mul-result-2 c = omega (arith, known c, below c)

pub overflow_add-result : goal.overflow_add-result
overflow_add-result c = omega (arith, known c, below c)

pub overflow_add-result-2 : goal.overflow_add-result-2
overflow_add-result-2 c = omega (arith, known c, below c)

pub returns : goal.returns
returns c = record { value = known c; bytes = rw (known c) (stored_back c.args.field c.args.register.magnitude c.args.word.magnitude) }
