-- `converse::lawful_tag` meets its contract: a run of tag bytes, and what comes after it. Rests on TagLaws.
use Rattle.std.proofs.Common.{rules}
use Rattle.listing_rules.proofs.Prelude.{◌∙◌, ◌≤◌, sym, true, false, length}
use Rattle.command_tokens.proofs.Binds.{token_missing, bare_ahead}
use Rattle.converse.proofs.TagLaws.{tag_missing, tag_found}
use Rattle.converse.proofs.tags.lawful_tag.Goals as goal
use Rattle.converse.proofs.tags.lawful_tag.Goals.{In_ok-tag}

pub returns-in_err-tag-clause-missing : goal.returns-in_err-tag-clause-missing
returns-in_err-tag-clause-missing c =
    rw c.from_residual.ensures (tag_missing _ (token_missing _ c.tag.ensures.result_value c.in_err-tag.was))

-- the tag ends inside the line
inside : (c : In_ok-tag) → c.in_ok-tag.rest.at ≤ length c.args.line.now
inside c = (bare_ahead _ _ c.tag.ensures.bare_in c.in_ok-tag.was).ahead.inside

pub slice_bounds-behind-count : goal.slice_bounds-behind-count
slice_bounds-behind-count c = inside (goal.at.slice_bounds-behind-count c).In_ok-tag

pub slice_bounds-behind-start : goal.slice_bounds-behind-start
slice_bounds-behind-start c =
    let here : c.in_ok-tag.rest.at ≤ length c.args.line.now = inside (goal.at.slice_bounds-behind-start c).In_ok-tag in
    search rules

pub returns-then-starts_with-clause-found : goal.returns-then-starts_with-clause-found
returns-then-starts_with-clause-found c =
    tag_found _ c.in_ok-tag.was c.tag.ensures.result_value c.tag.ensures.bare_in c.starts_with.ensures.value c.starts_with-2.ensures.value true
    c.if-starts_with.true
    ∙ sym c.raw.ensures

pub returns-clause-missing : goal.returns-clause-missing
returns-clause-missing c =
    tag_found _ c.in_ok-tag.was c.tag.ensures.result_value c.tag.ensures.bare_in c.starts_with.ensures.value c.starts_with-2.ensures.value false
    c.if-starts_with.false
