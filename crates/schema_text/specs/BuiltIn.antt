-- The schema that a plant has unless another is given.
use Rattle.std.specs.Prelude.{ℕ, List, [], ◌∷◌, ◌++◌, codes}
use Rattle.q_values.specs.declared.kind.Kind.TheVariants as k
use Rattle.day_rows.specs.declared.schema.Shape.{Shape}

-- its text
abbrev pub built_in_text : List ℕ
built_in_text =
    codes "trade:([]time:`timespan$();sym:`g#`symbol$();price:`long$();size:`long$())\n"
    ++ codes "quote:([]time:`timespan$();sym:`g#`symbol$();bid:`long$();ask:`long$();bsize:`long$();asize:`long$())\n"

-- its tables
abbrev pub built_in_tables : List Shape
built_in_tables =
    record {
      table = codes "quote";
      names = codes "time" ∷ codes "sym" ∷ codes "bid" ∷ codes "ask" ∷ codes "bsize" ∷ codes "asize" ∷ [];
      kinds = k.Timespan ∷ k.Symbol ∷ k.Long ∷ k.Long ∷ k.Long ∷ k.Long ∷ [];
    }
    ∷ record {
      table = codes "trade";
      names = codes "time" ∷ codes "sym" ∷ codes "price" ∷ codes "size" ∷ [];
      kinds = k.Timespan ∷ k.Symbol ∷ k.Long ∷ k.Long ∷ [];
    }
    ∷ []
