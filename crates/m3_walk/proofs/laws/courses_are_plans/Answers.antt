use Rattle.m3_walk.proofs.CoursePlan.{course_is_the_plan, course_suits}
use Rattle.m3_walk.proofs.CourseLength.{course_is_short}
use Rattle.m3_walk.proofs.laws.courses_are_plans.Goals as goal

pub returns-clause-plans : goal.returns-clause-plans
returns-clause-plans c = course_is_the_plan

pub returns-clause-suited : goal.returns-clause-suited
returns-clause-suited c = course_suits

pub returns-clause-short : goal.returns-clause-short
returns-clause-short c = course_is_short
