use Rattle.std.proofs.Common.{◌≡◌, ℕ, List, [], ◌∷◌, ◌++◌, length, ap, ◌∙◌, rules}
use Rattle.std.proofs.lemmas.List.{append-nil}
use Rattle.std.specs.List.{flat_map}
use Rattle.lines.specs.Lines.{two_digits, sign_text, byte_texts, word_digits}
use Rattle.lines.proofs.Ends.{bytes_joined, mapped}
use Rattle.lines.proofs.texts.word_text.Goals as goal

pub returns : goal.returns
unfolding word_digits
returns c =
    let n : length c.to_bytes.result ≡ 5 = search rules in
    let e = mapped _ (λ (b : ℕ). 32 ∷ two_digits b) _ c.to_bytes.result c.map.result 5 0 [] n c.map.ensures.items (λ i y p q w k. search rules) in
    ap (λ (s : ℕ). s ∷ (c.copy_from_slice.new.self ++ [])) c.sign_text-text.ensures
    ∙ ap (λ (l : List ℕ). sign_text c.args.word.sign ∷ l) (append-nil c.copy_from_slice.new.self ∙ c.copy_from_slice.ensures.after ∙ c.as_flattened.ensures.value ∙ ap (flat_map (λ x. x)) e ∙ bytes_joined c.to_bytes.result ∙ ap byte_texts c.to_bytes.ensures.bytes)
