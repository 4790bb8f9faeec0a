mod WaysSides
