-- The laws of the verbs.
use Rattle.std.proofs.Common.{map, sym, ap, ◌∙◌}
use Rattle.std.specs.Int.{int_wrap}
use Rattle.std.proofs.lemmas.Int.{int_wrap-add_left, int_wrap-add_right}
use Rattle.std.proofs.lemmas.List.{map-append}
use Rattle.q_verbs.specs.Aggregates.{total, number_of}
use Rattle.q_unary.specs.Laws.{SumOfJoined}
use Rattle.q_unary.proofs.TotalLemmas.{total-append}

pub sum_of_joined : SumOfJoined
sum_of_joined w xs ys =
    ap (λ l. int_wrap w (total l)) (map-append number_of xs ys)
    ∙ ap (int_wrap w) (total-append (map number_of xs) (map number_of ys))
    ∙ sym (int_wrap-add_right w (int_wrap w (total (map number_of xs))) (total (map number_of ys)) ∙ int_wrap-add_left w (total (map number_of xs)) (total (map number_of ys)))
