-- The models of a subcommand and of the files that it names.
use Rattle.std.specs.Prelude.{ℕ, List}
use Rattle.std.specs.Borrow.{Bor}
use Rattle.command_words.specs.declared.form.Form.{Form as Read}
use Rattle.command_words.specs.declared.form.Form.TheVariants as read
use Rattle.command_words.specs.Words.{Form, check, route, make, preview, shared, prove, audit}

abbrev pub view : Read → Form
view (read.Check diagram) = check diagram.now
view (read.Route diagram script workers count) = route diagram.now script.now workers count
view (read.Make seed) = make seed
view (read.Preview diagram script workers) = preview diagram.now script.now workers
view (read.Shared diagram) = shared diagram.now
view (read.Prove diagram) = prove diagram.now
view (read.Audit diagram certificate) = audit diagram.now certificate.now

abbrev pub texts_of : Bor (List ℕ) × Bor (List ℕ) → List ℕ × List ℕ
texts_of files = (files.0.now, files.1.now)
