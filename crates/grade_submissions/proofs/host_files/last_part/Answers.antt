use Rattle.std.proofs.Common.{Some, None, inl, inr, lit<}
use Rattle.std.proofs.lemmas.Str.Pattern.{strip_suffix_char}
use Rattle.grade_submissions.proofs.host_files.last_part.Goals as goal

-- a slash stands at its end
pub returns-in-Some : goal.returns-in-Some
returns-in-Some c = inl (c.in-Some.folder.now, strip_suffix_char 47 c.args.path.now (Some c.in-Some.folder) c.in-Some.ensures.cases (lit< tt), c.behind_slash.ensures)

-- none does
pub returns-in-None : goal.returns-in-None
returns-in-None c = inr (strip_suffix_char 47 c.args.path.now None c.in-None.ensures.cases (lit< tt), c.behind_slash-in-None.ensures)
