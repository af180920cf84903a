use Rattle.std.proofs.Common.{rules, ◌≡◌, ◌∷◌, ◌++◌, [], None, List, ℕ, map, subst, ap, sym, ◌∙◌}
use Rattle.std.proofs.lemmas.List.{map-append}
use Rattle.gated_journal.specs.Journal.{Holds}
use Rattle.partition_set.specs.Records.{payload_of, payloads_of}
use Rattle.partition_set.specs.declared.record.ManifestRecord.TheVariants as m
use Rattle.partition_set.proofs.manifest.Manifest.add_table.Goals as goal

pub returns-clause-kept : goal.returns-clause-kept
returns-clause-kept g c = λ tells.
    let added : c.push_reserved.new.self.items ≡ c.args.self.now.records ++ m.Shape c.args.shape.now ∷ [] = search rules in
    let payload : c.fill.new.self.bytes ≡ payload_of (m.Shape c.args.shape.now) = c.fill.ensures.bytes ∙ c.deref.ensures.value ∙ c.in_ok-bytes.ensures.bytes in
    let grown = ap payloads_of added ∙ map-append payload_of c.args.self.now.records (m.Shape c.args.shape.now ∷ []) ∙ ap (λ p. payloads_of c.args.self.now.records ++ p ∷ []) (sym payload) in
    subst (λ l. Holds c.append.new.self ((g.D.Disk.shown c.append.new.disk).now c.append.new.self.file) l None) (sym grown)
    ((c.in_ok-append.ensures.added (payloads_of c.args.self.now.records) (search rules)) tells)
