use Rattle.std.proofs.KnownBytes.{Appends-nil}
use Rattle.std.specs.Prelude.{codes}
use Rattle.aql_session.specs.Device.{sink_of}
use Rattle.aql_run.specs.Lines.{at_byte, in_declaration}
use Rattle.aql_run.proofs.Endings.{refused_text, refused_deep, refused_syntax, refused_type, refused_large, refused_memory}
use Rattle.aql_run.proofs.serving.refuse.Goals as goal

pub returns-in-Text-clause-written : goal.returns-in-Text-clause-written
returns-in-Text-clause-written g c =
    refused_text c.args.fault c.in-Text.at (sink_of g.O.Sink c.args.output.now c.end_with_made.new.output) c.end_with_made.result c.in-Text.is
    (c.end_with_made.ensures.written (at_byte (codes "text") c.in-Text.at) c.byte_line.ensures)

pub returns-in-Deep-clause-written : goal.returns-in-Deep-clause-written
returns-in-Deep-clause-written g c =
    refused_deep c.args.fault c.in-Deep.at (sink_of g.O.Sink c.args.output.now c.end_with_made-in-Deep.new.output) c.end_with_made-in-Deep.result c.in-Deep.is
    (c.end_with_made-in-Deep.ensures.written (at_byte (codes "deep") c.in-Deep.at) c.byte_line-in-Deep.ensures)

pub returns-in-Syntax-clause-written : goal.returns-in-Syntax-clause-written
returns-in-Syntax-clause-written g c =
    refused_syntax c.args.fault c.in-Syntax.declaration (sink_of g.O.Sink c.args.output.now c.end_with_made-in-Syntax.new.output) c.end_with_made-in-Syntax.result c.in-Syntax.is
    (c.end_with_made-in-Syntax.ensures.written (in_declaration (codes "syntax") c.in-Syntax.declaration) c.declaration_line.ensures)

pub returns-in-Type-clause-written : goal.returns-in-Type-clause-written
returns-in-Type-clause-written g c =
    refused_type c.args.fault c.in-Type.declaration (sink_of g.O.Sink c.args.output.now c.end_with_made-in-Type.new.output) c.end_with_made-in-Type.result c.in-Type.is
    (c.end_with_made-in-Type.ensures.written (in_declaration (codes "type") c.in-Type.declaration) c.declaration_line-in-Type.ensures)

pub returns-in-Large-clause-written : goal.returns-in-Large-clause-written
returns-in-Large-clause-written g c =
    refused_large c.args.fault c.in-Large.declaration (sink_of g.O.Sink c.args.output.now c.end_with_made-in-Large.new.output) c.end_with_made-in-Large.result c.in-Large.is
    (c.end_with_made-in-Large.ensures.written (in_declaration (codes "large") c.in-Large.declaration) c.declaration_line-in-Large.ensures)

pub returns-in-Memory-clause-written : goal.returns-in-Memory-clause-written
returns-in-Memory-clause-written g c =
    refused_memory c.args.fault (sink_of g.O.Sink c.args.output.now c.args.output.now) c.in-Memory.is (Appends-nil (g.O.Sink.holds c.args.output.now))
